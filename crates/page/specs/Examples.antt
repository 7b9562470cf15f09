-- The record of docs/REGISTER.md, computed: its 31 bytes as text, and what is found in a page of it. Assumes nothing.
use Rattle.std.specs.Prelude.{ℕ, ◌≡◌, refl, List, ◌++◌, drop}
use Rattle.facts.specs.Texts.{bytes}
use Rattle.entitlements.specs.declared.Kind.TheVariants.{Cancel}
use Rattle.page.specs.Page.{record_of, found_in, look_at, refusal_of}

-- The record of `C 17 0W7ARC7M6KYTAC890003`
abbrev example : List ℕ
example = bytes "*+C0W7ARC7M6KYTAC8900030000000H"

pub computed : (record_of Cancel (bytes "0W7ARC7M6KYTAC890003") 17 ≡ example)
    × (record_of Cancel (bytes "0W7ARC7M6KYTAC890003") 1099511627775 ≡ bytes "*+C0W7ARC7M6KYTAC890003YYYYYYYY")
unfolding record_of
computed = (refl, refl)

-- A page of it: past its end 52, as where its last byte is missing; at its second byte, with another page after it, 53; the end
pub computed_refusals : (refusal_of (look_at example 32) ≡ 52) × (refusal_of (look_at (drop 1 example) 0) ≡ 52)
    × (refusal_of (look_at (drop 1 example ++ example) 0) ≡ 53) × (refusal_of (look_at example 31) ≡ 0)
unfolding look_at found_in
computed_refusals = (refl, refl, refl, refl)
