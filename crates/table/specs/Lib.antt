pub mod Tables
pub mod TableSound
