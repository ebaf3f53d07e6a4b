pub mod SuitCut
