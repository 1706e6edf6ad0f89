pub mod Editors
pub mod FoundThread
pub mod FreePlace
pub mod PlaceScan
pub mod RevokedRows
