pub mod RecordsLaws
pub mod BitsLaws
pub mod FillLaws
pub mod ApartLaws
