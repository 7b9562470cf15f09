-- The loop of `numbers_at`: counted so far, with what is left of the line, is the whole. Assumes nothing.
use Rattle.std.specs.Prelude.{Option, Some, None, ℕ, ◌+◌, ◌≤◌, ◌<◌, ◌≡◌, refl, List, [], length, drop, get_or, set}
use Rattle.std.proofs.Common.{arith, sym, ap, ◌∙◌, length-set}
use Rattle.room.specs.Room.{put_at}
use Rattle.room.specs.RoomLaws.{put_nil, put_cons}
use Rattle.numbers.specs.Numbers.{number_at, count_in, leading_in}
use Rattle.numbers.specs.NumbersLaws.{plus, found, numbers_end, numbers_other, numbers_bad, numbers_more}

plus_none : (x : Option ℕ) → x ≡ plus 0 x
unfolding plus
plus_none (Some n) = ap Some (omega arith)
plus_none None = refl

plus_more : (k : ℕ) (x : Option ℕ) → plus k (plus 1 x) ≡ plus (k + 1) x
unfolding plus
plus_more k (Some n) = ap Some (omega arith)
plus_more k None = refl

plus_end : (k : ℕ) → plus k (Some 0) ≡ Some k
unfolding plus
plus_end k = ap Some (omega arith)

plus_bad : (k : ℕ) → plus k None ≡ None
unfolding plus
plus_bad k = refl

-- `count` numbers stand before the position i, and the room has the first of them
pub record Counting (line : List ℕ) (at : ℕ) (lent room : List ℕ) (count i : ℕ) : Type 0 where
  pub few : count ≤ i
  pub same : length room ≡ length lent
  pub counts : count_in (drop at line) ≡ plus count (count_in (drop i line))
  pub holds : put_at lent 0 (leading_in (drop at line)) ≡ put_at room count (leading_in (drop i line))

-- what `numbers_at` owes at its end
abbrev Answered : List ℕ → ℕ → List ℕ → List ℕ → Option ℕ → Type 0
Answered line at lent room reply = (reply ≡ count_in (drop at line)) × (room ≡ put_at lent 0 (leading_in (drop at line)))

pub counting_begin : (line : List ℕ) (at : ℕ) (room : List ℕ) → Counting line at room room 0 at
counting_begin line at room = record { few = omega arith; same = refl; counts = plus_none (count_in (drop at line)); holds = refl }

module _ {line : List ℕ} {at : ℕ} {lent room : List ℕ} {count i : ℕ} (so : Counting line at lent room count i) where
  -- the reply, where no number stands from the position on
  answered : (x reply : Option ℕ) → (count_in (drop i line) ≡ x) × (leading_in (drop i line) ≡ []) → plus count x ≡ reply → Answered line at lent room reply
  answered x reply none p = (
    sym (so.counts ∙ ap (plus count) none.0 ∙ p),
    sym (so.holds ∙ ap (put_at room count) none.1 ∙ put_nil room count),
  )

  pub counting_end : length line ≤ i → Answered line at lent room (Some count)
  counting_end h = answered (Some 0) (Some count) (numbers_end line i h) (plus_end count)

  pub counting_other : i < length line → (get_or line i 0 ≡ 32 → ⊥) → Answered line at lent room None
  counting_other h k = answered None None (numbers_other line i h k) (plus_bad count)

  -- at a number the loop goes on, further on in the line
  pub counting_further : {n end : ℕ} → number_at line (i + 1) ≡ Some (n, end) → i < end
  counting_further {n} {end} m = omega (arith, (found line (i + 1) n end m).ends)

  module _ (h : i < length line) (space : get_or line i 0 ≡ 32) where
    pub counting_bad : number_at line (i + 1) ≡ None → Answered line at lent room None
    counting_bad m = answered None None (numbers_bad line i h space m) (plus_bad count)

    pub counting_more : {n end : ℕ} → number_at line (i + 1) ≡ Some (n, end) → Counting line at lent (set room count n) (count + 1) end
    counting_more {n} {end} m =
        let step = numbers_more line i h space n end m in
        record {
          few = omega (arith, so.few, counting_further m);
          same = length-set room count n ∙ so.same;
          counts = so.counts ∙ ap (plus count) step.0 ∙ plus_more count (count_in (drop end line));
          holds = so.holds ∙ ap (put_at room count) step.1 ∙ put_cons room count n (leading_in (drop end line));
        }
