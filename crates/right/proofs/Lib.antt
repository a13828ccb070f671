pub mod RightLaws
