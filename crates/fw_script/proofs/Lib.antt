pub mod FateLetters
pub mod OneScript
pub mod SaidKinds
pub mod ScriptLemmas
pub mod ScriptSteps
pub mod Refused
