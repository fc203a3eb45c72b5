mod PlainLines
mod Versions
mod Said
mod SaidLines
mod SaidLaws
mod WholeTables
mod KnownNames
mod SaidWhole
pub mod FaultyRows
mod StoppedRows
