pub mod TextLaws
pub mod HexLaws
pub mod SaidLaws
pub mod DigitLaws
pub mod SayingLaws
