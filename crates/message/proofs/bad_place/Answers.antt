-- `message::bad_place` meets its contract, by the library's search among the numbers of the places. Assumes nothing.
use Rattle.std.proofs.Common.{rules, tests, ◌≡◌, ℕ, true, false, refl}
use Rattle.std.proofs.lemmas.Iterator.{YieldsList-from_range, cases_from_any}
use Rattle.message.specs.NoAccount.{bad_at, bad_any}
use Rattle.message.proofs.bad_place.Goals as goal

pub returns : goal.returns
returns c =
    let account = c.args.account.now in
    bad_any account c.any.result
    (cases_from_any _ _ _ (λ (i : ℕ). bad_at account i ≡ true) (λ (i : ℕ). bad_at account i ≡ false) c.any.ensures.ran (YieldsList-from_range 0 256 256 refl refl) (λ x q k. search (rules, tests)) (λ x q k. search (rules, tests)))
