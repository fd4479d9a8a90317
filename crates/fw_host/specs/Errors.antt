-- Public vocabulary: what a refusal of a library below is to the call of this crate that passes it on.
use Rattle.fw_image.specs.declared.error.OpenError.{OpenError}
use Rattle.fw_image.specs.declared.error.OpenError.TheVariants as opening
use Rattle.fw_journal.specs.declared.error.JournalError.{JournalError}
use Rattle.fw_journal.specs.declared.error.JournalError.TheVariants as journal
use Rattle.fw_kept.specs.declared.error.OpenError.{OpenError as ReopenError}
use Rattle.fw_kept.specs.declared.error.OpenError.TheVariants as reopening
use Rattle.fw_key_files.specs.declared.error.KeyFileError.{KeyFileError}
use Rattle.fw_key_files.specs.declared.error.KeyFileError.TheVariants as key_file
use Rattle.fw_host.specs.declared.error.BookFileError.{BookFileError}
use Rattle.fw_host.specs.declared.error.BookFileError.TheVariants as old_book
use Rattle.fw_host.specs.declared.error.CounterFileError.{CounterFileError}
use Rattle.fw_host.specs.declared.error.CounterFileError.TheVariants as old_counter
use Rattle.fw_host.specs.declared.error.MeterKeysError.{MeterKeysError}
use Rattle.fw_host.specs.declared.error.MeterKeysError.TheVariants as meter_keys
use Rattle.fw_host.specs.declared.error.NewBookError.{NewBookError}
use Rattle.fw_host.specs.declared.error.NewBookError.TheVariants as new_book
use Rattle.fw_host.specs.declared.error.NewCounterError.{NewCounterError}
use Rattle.fw_host.specs.declared.error.NewCounterError.TheVariants as new_counter
use Rattle.fw_host.specs.declared.error.StoreFileError.{StoreFileError}
use Rattle.fw_host.specs.declared.error.StoreFileError.TheVariants as store

-- a store that isn't opened
abbrev pub store_error : OpenError → StoreFileError
store_error opening.Fault = store.Device
store_error opening.BadHeader = store.BadHeader
store_error opening.BadImage = store.BadImage

-- the file of a book that is there: at `Locked` the lock on a book is another process's
abbrev pub old_book_error : JournalError → BookFileError
old_book_error (journal.BadBook offset) = old_book.BadBook offset
old_book_error journal.NotEmpty = old_book.BookFault
old_book_error journal.TooLong = old_book.BookFault
old_book_error journal.Full = old_book.BookFault
old_book_error journal.Locked = old_book.Locked
old_book_error journal.BookFault = old_book.BookFault
old_book_error journal.OutOfMemory = old_book.OutOfMemory

-- what that file holds
abbrev pub reopened_error : ReopenError → BookFileError
reopened_error (reopening.BadBook offset) = old_book.BadBook offset
reopened_error (reopening.BadRecord index) = old_book.BadRecord index
reopened_error reopening.ForeignHead = old_book.ForeignHead
reopened_error reopening.BookFault = old_book.BookFault
reopened_error reopening.OutOfMemory = old_book.OutOfMemory

-- the file of a book that is to be made
abbrev pub new_book_error : JournalError → NewBookError
new_book_error (journal.BadBook offset) = new_book.BookFault
new_book_error journal.NotEmpty = new_book.BookExists
new_book_error journal.TooLong = new_book.BookFault
new_book_error journal.Full = new_book.BookFault
new_book_error journal.Locked = new_book.Locked
new_book_error journal.BookFault = new_book.BookFault
new_book_error journal.OutOfMemory = new_book.OutOfMemory

-- the file of a counter that is there
abbrev pub old_counter_error : JournalError → CounterFileError
old_counter_error (journal.BadBook offset) = old_counter.CounterFault
old_counter_error journal.NotEmpty = old_counter.CounterFault
old_counter_error journal.TooLong = old_counter.CounterFault
old_counter_error journal.Full = old_counter.CounterFault
old_counter_error journal.Locked = old_counter.CounterLocked
old_counter_error journal.BookFault = old_counter.CounterFault
old_counter_error journal.OutOfMemory = old_counter.OutOfMemory

-- the file of a counter that is to be made
abbrev pub new_counter_error : JournalError → NewCounterError
new_counter_error (journal.BadBook offset) = new_counter.CounterFault
new_counter_error journal.NotEmpty = new_counter.CounterExists
new_counter_error journal.TooLong = new_counter.CounterFault
new_counter_error journal.Full = new_counter.CounterFault
new_counter_error journal.Locked = new_counter.CounterLocked
new_counter_error journal.BookFault = new_counter.CounterFault
new_counter_error journal.OutOfMemory = new_counter.OutOfMemory

-- the refusal of a key file that a meter passes on
abbrev pub key_file_error : MeterKeysError → KeyFileError
key_file_error meter_keys.KeysFault = key_file.KeysFault
key_file_error meter_keys.KeysReadable = key_file.KeysReadable
key_file_error (meter_keys.BadKeys line why) = key_file.BadKeys line why
key_file_error meter_keys.OutOfMemory = key_file.OutOfMemory
