mod CellLists
pub mod HandleTexts
pub mod LifeOrders
pub mod NumberTexts
pub mod PlaceNumbers
pub mod WordOrders
pub mod WordReads
