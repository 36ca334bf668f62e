pub mod Rows
pub mod Table
pub mod Profiles
pub mod Slots
pub mod Laws
pub mod Marks
pub mod NarrowRows
pub mod NarrowTables
