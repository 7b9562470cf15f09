-- 40 by the last number, by the total or by a place, and the search for such a place.
pub mod NoAccount
