pub mod NoteSpellings
mod Spellings
mod Parts
mod Books
mod Endings
mod Remade
mod Known
mod Renoted
