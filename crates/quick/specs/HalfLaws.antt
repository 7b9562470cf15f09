-- The laws of a half: how a loop takes its kept edges from the room one by one and moves some behind the others, and what is known of its
-- parts. Assumes nothing.
use Rattle.std.specs.Prelude.{ℕ, zero, suc, ◌+◌, ◌-◌, ◌*◌, ◌/◌, ◌≤◌, ◌<◌, max, ◌≡◌, refl, ◌⊎◌, Bool, true, false, cond, not, ◌&&◌, List, [], ◌∷◌, ◌++◌, map, length, get_or, take, drop}
use Rattle.std.proofs.Common.{add-one, arith, ap, ap₂, ◌∙◌, sym, subst, inl, inr, append-nil, append_assoc, drop_of_length-le, length-take-le, get_or-take}
use Rattle.std.specs.Bool.{beq}
use Rattle.std.proofs.lemmas.List.{map-append}
use Rattle.facts.specs.Tests.{differ, differ_comm, unlike}
use Rattle.facts.specs.Numbers.{either_way}
use Rattle.facts.specs.Lists.{count_up}
use Rattle.ground.specs.declared.Lat.{Lat}
use Rattle.ground.specs.declared.Lon.{Lon}
use Rattle.ground.specs.declared.Point.{Point}
use Rattle.ground.specs.declared.Rectangle.{Rectangle}
use Rattle.ground.specs.Levels.{lat, lon}
use Rattle.ground.specs.Rectangles.{at, Lies, south_west, south_of, north_of, west_of, east_of}
use Rattle.ground.specs.RectanglesLaws.{wide_ordered, within_self, within_then, lies_within, corner_lies}
use Rattle.edge.specs.Edge.{Edge, edge, misses, turns}
use Rattle.boundary.specs.Boundary.{point_inside, unmet}
use Rattle.boundary.specs.Sums.{total, Sums, differ_sums}
use Rattle.boundary.specs.Closed.{oddly}
use Rattle.boundary.specs.Keeps.{Keeps, keeps_inner, keeps_drop, keeps_unmet, keeps_turned}
use Rattle.boundary.specs.Listed.{edges_in, edge_in, with_edge}
use Rattle.boundary.specs.ListedLaws.{edges_length, edges_from, with_length_lem, edge_there, edge_before}
use Rattle.quick.specs.declared.half.Half.{Half}
use Rattle.quick.specs.Half.{kept_in, meeting, MissedTo, NearFirst, MetFirst, Same, Sound, narrowed, part_of, starting_at, Part, StrictlyBetween, AllIn}

-- Edges that are the same at so many places from one on make the same list
places_same : (f g : ℕ → Edge) (n i : ℕ) → ((j : ℕ) → i ≤ j → j < i + n → f j ≡ g j) → map f (count_up n i) ≡ map g (count_up n i)
places_same f g zero i h = refl
places_same f g (suc n) i h =
    ap₂ (λ (e : Edge) (es : List Edge). e ∷ es) (h i (omega arith) (omega arith))
    (places_same f g n (suc i) (λ j p q. h j (omega arith) (omega arith)))

-- The last of so many places
places_last : (n i : ℕ) → count_up (suc n) i ≡ count_up n i ++ ((i + n) ∷ [])
places_last zero i = ap (λ (k : ℕ). k ∷ []) (omega arith)
places_last (suc n) i =
    let here : suc i + n ≡ i + suc n = omega arith in
    ap (λ (js : List ℕ). i ∷ js) (places_last n (suc i) ∙ ap (λ (k : ℕ). count_up n (suc i) ++ (k ∷ [])) here)

module _ (room : List ℕ) where
  -- No edges from the end on
  pub kept_none : (i to : ℕ) → to ≤ i → kept_in room i to ≡ []
  kept_none i to h = let none : to - i ≡ 0 = omega arith in ap (λ (n : ℕ). map (edge_in room) (count_up n i)) none

  -- The first of the edges from a place on
  pub kept_more : (i to : ℕ) → i < to → kept_in room i to ≡ edge_in room i ∷ kept_in room (i + 1) to
  kept_more i to h =
      let more : to - i ≡ suc (to - (i + 1)) = omega arith in
      ap (λ (n : ℕ). map (edge_in room) (count_up n i)) more
      ∙ ap (λ (k : ℕ). edge_in room i ∷ map (edge_in room) (count_up (to - (i + 1)) k)) (sym (add-one i))

-- The edges before a place are the same in a later room
kept_same : (room later : List ℕ) {to : ℕ} → Same to room later → (from end : ℕ) → end ≤ to → kept_in later from end ≡ kept_in room from end
kept_same room later same from end h = places_same (edge_in later) (edge_in room) (end - from) from (λ j p q. same j (omega arith))

-- The edges of a list by their places
edges_places : (edges : List ℕ) (n i : ℕ) → i + n ≡ length edges / 4 → drop i (edges_in edges) ≡ map (edge_in edges) (count_up n i)
edges_places edges zero i e = drop_of_length-le (edges_in edges) {i = i} (omega (arith, edges_length edges))
edges_places edges (suc n) i e =
    edges_from edges i (omega arith) ∙ ap (λ (es : List Edge). edge_in edges i ∷ es) (edges_places edges n (suc i) (omega arith))

-- The edges up to a place are those of the numbers up to it
pub kept_listed : (room : List ℕ) (count : ℕ) → 4 * count ≤ length room → kept_in room 0 count ≡ edges_in (take (4 * count) room)
kept_listed room count h =
    let all : count - 0 ≡ count = omega arith in
    let long : length (take (4 * count) room) ≡ 4 * count = length-take-le (4 * count) room h in
    ap (λ (n : ℕ). map (edge_in room) (count_up n 0)) all
    ∙ places_same (edge_in room) (edge_in (take (4 * count) room)) count 0 (λ j p q. sym (same j (omega arith)))
    ∙ sym (edges_places (take (4 * count) room) count 0 (omega (arith, long)))
  where
    number : (k : ℕ) → k < 4 * count → get_or (take (4 * count) room) k 0 ≡ get_or room k 0
    number k less = get_or-take (4 * count) room k 0 less

    same : (j : ℕ) → j < count → edge_in (take (4 * count) room) j ≡ edge_in room j
    same j less =
        ap₂ edge
        (ap₂ (λ (y x : ℕ). at (lat y) (lon x)) (number (2 * (2 * j)) (omega arith)) (number (2 * (2 * j) + 1) (omega arith)))
        (ap₂ (λ (y x : ℕ). at (lat y) (lon x)) (number (2 * (2 * j + 1)) (omega arith)) (number (2 * (2 * j + 1) + 1) (omega arith)))

-- All edges stay where they are as long as the room stays the same up to there
pub all_same : {es : List Edge} {room later : List ℕ} {count : ℕ} → AllIn es room count → length later ≡ length room → Same count room later
    → AllIn es later count
all_same {es} {room} {later} {count} a long same =
    record { fits = omega (arith, a.fits); all = kept_same room later same 0 count (omega arith) ∙ a.all }

-- Edges that miss up to a place, and then up to a later one
pub missed_then : {room : List ℕ} {r : Rectangle} {from to end : ℕ} → MissedTo room r from to → MissedTo room r to end → MissedTo room r from end
missed_then {room} {r} {from} {to} {end} m n = record { each = λ j h k. at j h k (either_way to j) }
  where
    at : (j : ℕ) → from ≤ j → j < end → (to ≤ j) ⊎ (j < to) → misses (edge_in room j) r ≡ true
    at j h k (inl l) = n.each j l k
    at j h k (inr l) = m.each j h l

-- none up to the first
pub missed_none : (room : List ℕ) (r : Rectangle) (from : ℕ) → MissedTo room r from from
missed_none room r from = record { each = λ j h k. let none : ⊥ = omega arith in absurd none }

-- and one more
pub missed_again : {room : List ℕ} {r : Rectangle} {from i : ℕ} → MissedTo room r from i → misses (edge_in room i) r ≡ true → MissedTo room r from (i + 1)
missed_again {room} {r} {from} {i} m t = missed_then m (record { each = λ j h k. one j h k })
  where
    one : (j : ℕ) → i ≤ j → j < i + 1 → misses (edge_in room j) r ≡ true
    one j h k = let same : i ≡ j = omega arith in subst (λ (n : ℕ). misses (edge_in room n) r ≡ true) same t

-- The first edge that is not beyond a side, asked again past each that misses: where the first call ended
pub near_begin : {room : List ℕ} {r : Rectangle} {from to place : ℕ} → NearFirst room r from to place → NearFirst room r place to place
near_begin {room} {r} {place = place} n = record { least = omega arith; missed = missed_none room r place; near = n.near }

-- past an edge that misses, to where the next call ended
pub near_again : {room : List ℕ} {r : Rectangle} {from to i place : ℕ} → NearFirst room r from to i → misses (edge_in room i) r ≡ true
    → NearFirst room r (i + 1) to place → NearFirst room r from to place
near_again n t next =
    record { least = omega (arith, n.least, next.least); missed = missed_then (missed_again n.missed t) next.missed; near = next.near }

-- and the place where it ends is that of the first that meets
pub near_met : {room : List ℕ} {r : Rectangle} {from to first place : ℕ} → NearFirst room r from to first → NearFirst room r first to place
    → (place < to → misses (edge_in room place) r ≡ false) → MetFirst room r from to place
near_met n m met = record { least = omega (arith, n.least, m.least); missed = missed_then n.missed m.missed; met = met }

-- Edges that miss a rectangle need not be kept for it
keeps_passed : {es : List Edge} {room : List ℕ} {r : Rectangle} (to n i : ℕ) → MissedTo room r i (i + n) → Keeps es r (kept_in room i to)
    → Keeps es r (kept_in room (i + n) to)
keeps_passed {es} {room} {r} to zero i m k = let same : i ≡ i + 0 = omega arith in subst (λ (j : ℕ). Keeps es r (kept_in room j to)) same k
keeps_passed {es} {room} {r} to (suc n) i m k =
    let next : i + 1 + n ≡ i + suc n = omega arith in
    subst (λ (j : ℕ). Keeps es r (kept_in room j to)) next
    (keeps_passed {room = room} to n (i + 1) (record { each = λ j h l. m.each j (omega arith) (omega arith) }) (at (either_way to i)))
  where
    at : (to ≤ i) ⊎ (i < to) → Keeps es r (kept_in room (i + 1) to)
    at (inl h) = subst (Keeps es r) (kept_none room i to h ∙ sym (kept_none room (i + 1) to (omega arith))) k
    at (inr h) =
        keeps_drop [] (edge_in room i) (kept_in room (i + 1) to) (m.each i (omega arith) (omega arith))
        (subst (Keeps es r) (kept_more room i to h) k)

-- A sum to which an edge that misses adds nothing is that over those that meet
meeting_sums : (op : Bool → Bool → Bool) (unit : Bool) → Sums op unit → (f : Edge → Bool) (r : Rectangle)
    → ((e : Edge) → misses e r ≡ true → f e ≡ unit) → (ks : List Edge) → total op unit f ks ≡ total op unit f (meeting r ks)
meeting_sums op unit laws f r none [] = refl
meeting_sums op unit laws f r none (e ∷ ks) = at (misses e r) refl (meeting_sums op unit laws f r none ks)
  where
    at : (t : Bool) → misses e r ≡ t → total op unit f ks ≡ total op unit f (meeting r ks)
        → op (f e) (total op unit f ks) ≡ total op unit f (cond t (meeting r ks) (e ∷ meeting r ks))
    at true t rest = ap (λ (b : Bool). op b (total op unit f ks)) (none e t) ∙ laws.none (total op unit f ks) ∙ rest
    at false t rest = ap (op (f e)) rest

-- So of kept edges those that meet the rectangle are enough
keeps_meeting : {es : List Edge} {r : Rectangle} (ks : List Edge) → Keeps es r ks → Keeps es r (meeting r ks)
keeps_meeting {es} {r} ks k =
    record { sum = λ op unit laws f none. k.sum op unit laws f none ∙ meeting_sums op unit laws f r none ks }

module _ {es : List Edge} {room : List ℕ} {h : Half} (s : Sound es room h) where
  -- The edges from the first that meets a half on are kept for it
  keeps_met : {place : ℕ} → MetFirst room h.ground h.first h.to place → Keeps es h.ground (kept_in room place h.to)
  keeps_met {place} m =
      let there : h.first + (place - h.first) ≡ place = omega (arith, m.least) in
      subst (λ (j : ℕ). Keeps es h.ground (kept_in room j h.to)) there
      (keeps_passed {room = room} h.to (place - h.first) h.first (record { each = λ j k l. m.missed.each j k (omega arith) }) s.asked)

  -- Where one meets it, it is met
  pub met_unmet : {place : ℕ} → MetFirst room h.ground h.first h.to place → place < h.to → unmet h.ground es ≡ false
  met_unmet {place} m less =
      keeps_unmet (keeps_met m) ∙ ap (unmet h.ground) (kept_more room place h.to less)
      ∙ ap (λ (t : Bool). t && unmet h.ground (kept_in room (place + 1) h.to)) (m.met less)

  -- and where none does, not
  pub past_unmet : {place : ℕ} → MetFirst room h.ground h.first h.to place → h.to ≤ place → unmet h.ground es ≡ true
  past_unmet {place} m past = keeps_unmet (keeps_met m) ∙ ap (unmet h.ground) (kept_none room place h.to past)

  -- so where none is found
  pub none_unmet : MissedTo room h.ground h.first h.to → unmet h.ground es ≡ true
  none_unmet missed =
      past_unmet {place = max h.first h.to}
      (record {
        least = omega arith;
        missed = record { each = λ j k l. missed.each j k (omega (arith, k, l)) };
        met = λ less. let none : ⊥ = omega arith in absurd none;
      })
      (omega arith)

  -- The count at a point of a half, by its edges alone
  pub odd_inside : {q : Point} → Lies h.ground q
      → differ h.odd (oddly (turns h.east h.corner q) (kept_in room h.from h.to)) ≡ point_inside q es
  odd_inside {q} in_q =
      let kept = kept_in room h.from h.to in
      sym
      (keeps_turned s.closed s.lies (lies_within s.within in_q) s.kept.keeps
      ∙ ap₂ (λ (b : Bool) (x : Lon). differ b (oddly (turns x h.corner q) kept)) (sym s.odd) (sym s.east))

-- The loop of `odd_at`: the count so far, with the turns of the edges from place i on
pub record TurnedFrom (room : List ℕ) (turn : Edge → Bool) (whole : Bool) (to : ℕ) (odd : Bool) (i : ℕ) : Type 0 where
  pub rest : whole ≡ differ odd (oddly turn (kept_in room i to))

module _ {room : List ℕ} {turn : Edge → Bool} {whole : Bool} {to : ℕ} {odd : Bool} {i : ℕ} (o : TurnedFrom room turn whole to odd i) where
  -- One edge more
  pub odd_again : {t : Bool} {e : Edge} → i < to → t ≡ turn e → e ≡ edge_in room i → TurnedFrom room turn whole to (not (beq odd t)) (i + 1)
  odd_again {t} {e} h is seen =
      let rest = oddly turn (kept_in room (i + 1) to) in
      record {
        rest =
            o.rest ∙ ap (λ (es : List Edge). differ odd (oddly turn es)) (kept_more room i to h)
            ∙ sym (differ_sums.assoc odd (turn (edge_in room i)) rest)
            ∙ ap (λ (b : Bool). differ b rest) (ap (differ odd) (sym (is ∙ ap turn seen)) ∙ sym (unlike odd t));
      }

  -- and where none is left, it is known
  pub odd_end : to ≤ i → odd ≡ whole
  odd_end h = sym (o.rest ∙ ap (λ (es : List Edge). differ odd (oddly turn es)) (kept_none room i to h) ∙ differ_comm odd false)

-- The loop of `keep`: those put behind the others, with those that meet of the edges still to be seen, are those that meet
pub record Moved (lent room : List ℕ) (r : Rectangle) (from to end i : ℕ) : Type 0 where
  pub all : kept_in room to end ++ meeting r (kept_in room i to) ≡ meeting r (kept_in lent from to)
  pub first : to ≤ end
  pub few : end + from ≤ to + i
  pub last : i ≤ to
  pub same : Same to lent room
  pub long : length room ≡ length lent

-- At first none is moved
pub moved_begin : (lent : List ℕ) (r : Rectangle) (from to : ℕ) → from ≤ to → Moved lent lent r from to to from
moved_begin lent r from to h =
    record {
      all = ap (λ (es : List Edge). es ++ meeting r (kept_in lent from to)) (kept_none lent to to (omega arith));
      first = omega arith;
      few = omega arith;
      last = h;
      same = λ j k. refl;
      long = refl;
    }

module _ {lent room : List ℕ} {r : Rectangle} {from to end i : ℕ} (m : Moved lent room r from to end i) where
  -- The first edge still to be seen is moved or not
  moved_next : {t : Bool} → i < to → misses (edge_in room i) r ≡ t
      → kept_in room to end ++ cond t (meeting r (kept_in room (i + 1) to)) (edge_in room i ∷ meeting r (kept_in room (i + 1) to))
      ≡ meeting r (kept_in lent from to)
  moved_next {t} h e =
      let rest = meeting r (kept_in room (i + 1) to) in
      sym
      (ap (λ (es : List Edge). kept_in room to end ++ meeting r es) (kept_more room i to h)
      ∙ ap (λ (b : Bool). kept_in room to end ++ cond b rest (edge_in room i ∷ rest)) e)
      ∙ m.all

  -- An edge that misses is left out
  pub moved_missed : i < to → misses (edge_in room i) r ≡ true → Moved lent room r from to end (i + 1)
  moved_missed h t =
      record { all = moved_next h t; first = m.first; few = omega (arith, m.few); last = omega arith; same = m.same; long = m.long }

  -- Any other is put behind the others
  pub moved_added : {e : Edge} → i < to → end < length room / 4 → misses (edge_in room i) r ≡ false → e ≡ edge_in room i
      → Moved lent (with_edge room end e) r from to (end + 1) (i + 1)
  moved_added {e} h k t is =
      record {
        all =
            ap₂ (λ (es ks : List Edge). es ++ meeting r ks) behind before
            ∙ append_assoc (kept_in room to end) (edge_in room i ∷ []) (meeting r (kept_in room (i + 1) to)) ∙ moved_next h t;
        first = omega (arith, m.first);
        few = omega (arith, m.few);
        last = omega arith;
        same = λ j l. edge_before room end e k j (omega (arith, m.first)) ∙ m.same j l;
        long = with_length_lem room end e ∙ m.long;
      }
    where
      later : List ℕ
      later = with_edge room end e

      stays : Same end room later
      stays = edge_before room end e k

      before : kept_in later (i + 1) to ≡ kept_in room (i + 1) to
      before = kept_same room later stays (i + 1) to m.first

      behind : kept_in later to (end + 1) ≡ kept_in room to end ++ (edge_in room i ∷ [])
      behind =
          let count : end + 1 - to ≡ suc (end - to) = omega (arith, m.first) in
          let last : to + (end - to) ≡ end = omega (arith, m.first) in
          ap (λ (n : ℕ). map (edge_in later) (count_up n to)) count
          ∙ ap (map (edge_in later)) (places_last (end - to) to)
          ∙ map-append (edge_in later) (count_up (end - to) to) ((to + (end - to)) ∷ [])
          ∙ ap₂ (λ (es : List Edge) (e : Edge). es ++ (e ∷ [])) (kept_same room later stays to end (omega arith))
          (ap (edge_in later) last ∙ edge_there room end e k ∙ is)

  -- At the end those behind the others are those that meet
  pub moved_end : to ≤ i → kept_in room to end ≡ meeting r (kept_in lent from to)
  moved_end h =
      sym (append-nil (kept_in room to end)) ∙ ap (λ (es : List Edge). kept_in room to end ++ meeting r es) (sym (kept_none room i to h)) ∙ m.all

-- with the room and the end by other names
pub moved_as : {lent room named : List ℕ} {r : Rectangle} {from to end last i : ℕ} → named ≡ room → last ≡ end → Moved lent room r from to end i
    → Moved lent named r from to last i
moved_as {lent} {room} {named} {r} {from} {to} {end} {last} {i} e f m =
    subst (λ (n : ℕ). Moved lent named r from to n i) (sym f) (subst (λ (l : List ℕ). Moved lent l r from to end i) (sym e) m)

-- What is known of a half stays so in a later room with the same edges before its last
pub sound_same : {es : List Edge} {room later : List ℕ} {h : Half} → Sound es room h → Same h.to room later → length later ≡ length room
    → Sound es later h
sound_same {es} {room} {later} {h} s same long =
    record {
      closed = s.closed;
      wide = s.wide;
      around = s.around;
      within = s.within;
      lies = s.lies;
      east = s.east;
      kept = record {
        keeps = subst (Keeps es s.around) (sym (kept_same room later same h.from h.to (omega arith))) s.kept.keeps;
        first = s.kept.first;
        last = subst (λ (n : ℕ). 4 * h.to ≤ n) (sym long) s.kept.last;
      };
      asked = subst (Keeps es h.ground) (sym (kept_same room later same h.first h.to (omega arith))) s.asked;
      odd = s.odd;
    }

module _ {es : List Edge} {room : List ℕ} {h : Half} (s : Sound es room h) where
  -- The parts of a half's ground on both sides of a latitude or a longitude in it
  pub south_part : (y : Lat) → StrictlyBetween h.ground.south.0 y.0 h.ground.north.0 → Part h (south_of h.ground y)
  south_part y b = record { wide = omega (arith, s.wide.across, b.above); within = omega (arith, b.below) }

  pub north_part : (y : Lat) → StrictlyBetween h.ground.south.0 y.0 h.ground.north.0 → Part h (north_of h.ground y)
  north_part y b = record { wide = omega (arith, s.wide.across, b.below); within = omega (arith, b.above) }

  pub west_part : (x : Lon) → StrictlyBetween h.ground.west.0 x.0 h.ground.east.0 → Part h (west_of h.ground x)
  west_part x b = record { wide = omega (arith, s.wide.up, b.above); within = omega (arith, b.below) }

  pub east_part : (x : Lon) → StrictlyBetween h.ground.west.0 x.0 h.ground.east.0 → Part h (east_of h.ground x)
  east_part x b = record { wide = omega (arith, s.wide.up, b.below); within = omega (arith, b.above) }

  -- A part of a half, with those of its edges to ask that are kept for the part
  sound_narrowed : {part : Rectangle} {first : ℕ} → Part h part → Keeps es part (kept_in room first h.to) → Sound es room (narrowed h part first)
  sound_narrowed p keeps =
      record {
        closed = s.closed;
        wide = p.wide;
        around = s.around;
        within = within_then p.within s.within;
        lies = s.lies;
        east = s.east;
        kept = s.kept;
        asked = keeps;
        odd = s.odd;
      }

  -- A part that shares its edges
  pub sound_part : {part : Rectangle} → Part h part → Sound es room (part_of h part)
  sound_part p = sound_narrowed p (keeps_inner (wide_ordered p.wide) p.within s.asked)

  -- A half from the first edge on that meets it
  pub sound_starting : {place : ℕ} → MetFirst room h.ground h.first h.to place → Sound es room (starting_at h place)
  sound_starting m = sound_narrowed (record { wide = s.wide; within = within_self h.ground }) (keeps_met s m)

  -- and one with edges of its own
  pub sound_sorted : {later : List ℕ} {corner : Point} {odd : Bool} {place end : ℕ} → corner ≡ south_west h.ground → odd ≡ point_inside corner es
      → MetFirst room h.ground h.first h.to place → kept_in later h.to end ≡ meeting h.ground (kept_in room place h.to)
      → (h.to ≤ end) × (4 * end ≤ length later)
      → Sound es later (let ground : Rectangle = h.ground in record { ground = ground; corner = corner; odd = odd; east = h.ground.east; from = h.to; first = h.to; to = end })
  sound_sorted {later} {corner} {odd} {place} {end} is count m kept fits =
      let own : Keeps es h.ground (kept_in later h.to end) =
      subst (Keeps es h.ground) (sym kept) (keeps_meeting (kept_in room place h.to) (keeps_met s m)) in
      record {
        closed = s.closed;
        wide = s.wide;
        around = h.ground;
        within = within_self h.ground;
        lies = subst (Lies h.ground) (sym is) (corner_lies s.wide);
        east = refl;
        kept = record { keeps = own; first = fits.0; last = fits.1 };
        asked = own;
        odd = count;
      }

-- Edges that stay the same up to a place, and then up to a later one
pub same_then : (room later latest : List ℕ) {to last : ℕ} → (to ≤ last) × Same to room later → Same last later latest → Same to room latest
same_then room later latest first then j h = then j (omega (arith, first.0)) ∙ first.1 j h

-- and so where they stayed the same before
pub then_same : (room earlier later latest : List ℕ) {to last : ℕ} → Same to room earlier → (to ≤ last) × Same to earlier later
    → Same last later latest → Same to room latest
then_same room earlier later latest before first then j h = same_then earlier later latest first then j h ∙ before j h
