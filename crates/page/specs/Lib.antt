-- What the contracts of `page` cite, their laws, that writing and reading are each the other's reverse, an example, and that no second answer
-- meets them.
pub mod Page
pub mod Known
pub mod Told
pub mod Examples
pub mod Once
