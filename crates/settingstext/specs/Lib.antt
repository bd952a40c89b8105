pub mod TextRead
pub mod TextWritten
pub mod inner
