pub mod FieldLaws
pub mod RecordLaws
pub mod RoundTrip
pub mod ParkLaws
pub mod StateLaws
pub mod CheckedLaws
