pub mod OwnerLaws
