pub mod Meaning
pub mod Windows
pub mod WindowSound
pub mod Bottoms
pub mod BottomSound
