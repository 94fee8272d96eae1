pub mod FreeTreeLists
pub mod FreeTrees
pub mod FreeTreesSplit
pub mod Laws
pub mod NormalForms
