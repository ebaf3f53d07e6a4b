pub mod TrueReasons
