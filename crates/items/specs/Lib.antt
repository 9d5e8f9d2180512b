pub mod Items
pub mod AccountItems
pub mod Writing
pub mod Parcels
pub mod Laws
