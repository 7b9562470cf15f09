-- `message::no_account` meets its contract: 40 is by the last number, by the total, or by a place. Assumes nothing.
use Rattle.std.proofs.Common.{◌≡◌, Bool, true, false, not, refl, ap, sym, ◌∙◌, true≢false, eq-eqb, eqb-true, lt-ltb}
use Rattle.entitlements.specs.Entitlements.{largest}
use Rattle.message.specs.NoAccount.{last_large, total_other, numbers_right}
use Rattle.message.proofs.no_account.Goals as goal
use Rattle.message.proofs.no_account.Goals.{then-account-gt-LARGEST, else-account-gt-LARGEST}

true_by_not : (b : Bool) → not b ≡ false → b ≡ true
true_by_not true e = refl
true_by_not false e = sym e

pub returns-then-count_active-account : goal.returns-then-count_active-account
returns-then-count_active-account c =
    let account = c.args.account.now in
    let said = c.if-count_active-account.true in
    said
    ∙ sym
    (elim c.if-account-gt-LARGEST.branch [
      | then-account-gt-LARGEST w ↦ last_large account w.if-account-gt-LARGEST.true
      | else-account-gt-LARGEST w ↦ total_other account
          (λ e. true≢false (sym said ∙ w.value-is ∙ ap not (eq-eqb w.count_active.result account.total (w.count_active.ensures ∙ e))))
    ])

pub returns-else-count_active-account : goal.returns-else-count_active-account
returns-else-count_active-account c =
    let account = c.args.account.now in
    let said = c.if-count_active-account.false in
    c.bad_place.ensures
    ∙ sym
    (elim c.if-account-gt-LARGEST.branch [
      | then-account-gt-LARGEST w ↦ absurd (true≢false (sym (lt-ltb largest account.last w.if-account-gt-LARGEST.true) ∙ sym w.value-is ∙ said))
      | else-account-gt-LARGEST w ↦ numbers_right account w.if-account-gt-LARGEST.false
          (sym w.count_active.ensures
          ∙ eqb-true w.count_active.result account.total (true_by_not _ (sym w.value-is ∙ said)))
    ])
