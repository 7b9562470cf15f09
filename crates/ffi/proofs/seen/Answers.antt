-- `ffi::seen` meets its contract, case by case: a record tells its letter and its number, the end is 1, and each other case its refusal.
-- Assumes nothing.
use Rattle.std.specs.Prelude.{Err}
use mathlib.Core.Path.{◌≡◌, refl}
use Rattle.page.specs.declared.LookError.{LookError}
use Rattle.page.specs.declared.LookError.TheVariants as look
use Rattle.page.specs.Page.{refusal_of}
use Rattle.ffi.specs.Replies.{looked_by, looked_of}

refusal_looked : (e : LookError) → looked_by (refusal_of (Err e)) 0 0 ≡ looked_of (Err e)
refusal_looked look.Cut = refl
refusal_looked look.Mark = refl
refusal_looked look.Content = refl
