-- The laws of checks that run in order: tables one after the other, what a table that says number 0 leaves, and which numbers it never
-- says. Assumes nothing.
use Rattle.std.specs.Prelude.{ℕ, ◌<◌, ◌≡◌, refl, Bool, true, false, cond, not, ◌&&◌, List, [], ◌∷◌, ◌++◌, T, ltb, eqb}
use Rattle.std.proofs.Common.{arith, sym, ap, ◌∙◌, ltb→lt, eqb-true, eq-eqb, ne_eqb}
use Rattle.std.proofs.lemmas.Bool.{eqb-false, not-true}
use Rattle.facts.specs.Tests.{true_of, both_hold}
use Rattle.replies.specs.Replies.{Said, refused, Check, run}

-- No row of a table has number 0, which is acceptance's
abbrev pub numbered : List Check → Bool
numbered [] = true
numbered (c ∷ cs) = ltb 0 c.number && numbered cs

-- No row of a table refuses
abbrev pub Passed : List Check → Type 0
Passed [] = Unit {0}
Passed (c ∷ cs) = (c.refuses ≡ false) × Passed cs

-- Where a table says number 0, no row refuses
pub passed : (cs : List Check) → T (numbered cs) → (run cs).number ≡ 0 → Passed cs
passed [] t e = tt
passed (c ∷ cs) t e =
    let ts = both_hold (ltb 0 c.number) (numbered cs) t in
    at c.refuses (ltb→lt 0 c.number ts.0) e (passed cs ts.1)
  where
    at : (b : Bool) → 0 < c.number → (cond b (refused c.number c.place) (run cs)).number ≡ 0 → ((run cs).number ≡ 0 → Passed cs)
        → (b ≡ false) × Passed cs
    at true h k ih = let none : ⊥ = omega arith in absurd none
    at false h k ih = (refl, ih k)

-- No row of a table has a number
abbrev pub without : ℕ → List Check → Bool
without n [] = true
without n (c ∷ cs) = not (eqb c.number n) && without n cs

-- so the table never says it
pub never_says : (n : ℕ) → 0 < n → (cs : List Check) → T (without n cs) → (run cs).number ≡ n → ⊥
never_says n some [] t e = omega arith
never_says n some (c ∷ cs) t e =
    let same : Bool = eqb c.number n in
    let ts = both_hold (not same) (without n cs) t in
    at c.refuses (eqb-false c.number n (not-true same (true_of (not same) ts.0))) (never_says n some cs ts.1) e
  where
    at : (b : Bool) → (c.number ≡ n → ⊥) → ((run cs).number ≡ n → ⊥) → (cond b (refused c.number c.place) (run cs)).number ≡ n → ⊥
    at true h later = h
    at false h later = later

-- Two tables, one after the other: the first's refusal, or what the second says
pub run_append : (cs ds : List Check) → T (numbered cs) → run (cs ++ ds) ≡ cond (eqb (run cs).number 0) (run ds) (run cs)
run_append [] ds t = refl
run_append (c ∷ cs) ds t =
    let ts = both_hold (ltb 0 c.number) (numbered cs) t in
    at c.refuses (ltb→lt 0 c.number ts.0) (run_append cs ds ts.1)
  where
    at : (b : Bool) → 0 < c.number → run (cs ++ ds) ≡ cond (eqb (run cs).number 0) (run ds) (run cs)
        → cond b (refused c.number c.place) (run (cs ++ ds))
        ≡ cond (eqb (cond b (refused c.number c.place) (run cs)).number 0) (run ds) (cond b (refused c.number c.place) (run cs))
    at true h ih = sym (ap (λ (t : Bool). cond t (run ds) (refused c.number c.place)) (ne_eqb c.number 0 (λ e. omega arith)))
    at false h ih = ih

-- Where the first refuses, that is what both say
pub run_first : (cs ds : List Check) → T (numbered cs) → ((run cs).number ≡ 0 → ⊥) → run (cs ++ ds) ≡ run cs
run_first cs ds t h = rw (run_append cs ds t, ne_eqb (run cs).number 0 h)

-- and where it says number 0, both say what the second says
pub run_second : (cs ds : List Check) → T (numbered cs) → (run cs).number ≡ 0 → run (cs ++ ds) ≡ run ds
run_second cs ds t h = rw (run_append cs ds t, eq-eqb (run cs).number 0 h)

-- Two tables, one after the other, as a function runs them
module _ (cs ds : List Check) (some : T (numbered cs)) where
  -- What the first says, where it refuses, both say
  pub stops : {s : Said} → s ≡ run cs → (s.number ≡ 0 → ⊥) → s ≡ run (cs ++ ds)
  stops e refuses = e ∙ sym (run_first cs ds some (λ z. refuses (ap (λ (t : Said). t.number) e ∙ z)))

  -- and where it does not, what the second says
  pub goes_on : {s t : Said} → s ≡ run cs → s.number ≡ 0 → t ≡ run ds → t ≡ run (cs ++ ds)
  goes_on e z k = k ∙ sym (run_second cs ds some (sym (ap (λ (t : Said). t.number) e) ∙ z))

  -- Where they say number 0, each does
  pub both_pass : (run (cs ++ ds)).number ≡ 0 → ((run cs).number ≡ 0) × ((run ds).number ≡ 0)
  both_pass e = at (eqb (run cs).number 0) refl
    where
      at : (b : Bool) → eqb (run cs).number 0 ≡ b → ((run cs).number ≡ 0) × ((run ds).number ≡ 0)
      at true k =
          let first = eqb-true (run cs).number 0 k in
          (first, sym (ap (λ (s : Said). s.number) (run_second cs ds some first)) ∙ e)
      at false k =
          let refuses = eqb-false (run cs).number 0 k in
          absurd (refuses (sym (ap (λ (s : Said). s.number) (run_first cs ds some refuses)) ∙ e))
