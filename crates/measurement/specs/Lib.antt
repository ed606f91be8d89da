-- Lists of readings, in the order of document 01.
pub mod Lists
