pub mod Journals
pub mod JournalSound
