-- Two runs that meet are taken out of their places, and one is put in or both are again.
use Rattle.std.proofs.Common.{◌≡◌, ◌≢◌, ℕ, ◌-◌, ◌<◌, ◌≤◌, ◌⊎◌, inl, inr, List, length, get_or, set, Option, None, Some, ap, ap₂, sym, ◌∙◌, subst, arith}
use Rattle.std.specs.Prelude.{map, is_some}
use Rattle.std.proofs.Math.ListN.{length-set}
use Rattle.std.proofs.Math.Seq.{map-set_same}
use Rattle.std.proofs.lemmas.Bool.{cases_lt}
use Rattle.std.proofs.lemmas.List.{set-set, set_comm, map-set}
use Rattle.spp_book.specs.declared.book.Run.{Run}
use Rattle.spp_book.specs.Books.{AreRuns, MeetAt, end_at, entry}
use Rattle.spp_book.proofs.Lists.{ends_is, set_entry, place_here, none_behind}
use Rattle.spp_book.proofs.Runs.{IsSet, no_some, same_some, one_runs, again_runs}
use Rattle.spp_book.proofs.Meetings.{end_in, ends_of, left_run, right_run}

-- a place that isn't empty is one of the list
within : {X : Type 0} (xs : List (Option X)) (i : ℕ) (x : X) → entry xs i ≡ Some x → (i < length xs) ⊎ (length xs ≤ i) → i < length xs
within xs i x h (inl lt) = lt
within xs i x h (inr le) = no_some (entry xs i) x (none_behind xs i le) h

pub in_place : {X : Type 0} (xs : List (Option X)) (i : ℕ) (x : X) → entry xs i ≡ Some x → i < length xs
in_place xs i x h = within xs i x h (cases_lt i (length xs))

module _ {C : Type 0} (parts : ℕ) (value : ℕ → ℕ → C → Type 0) (runs : List (Option (Run C))) (notes : List (Option ℕ))
    (are : AreRuns parts value (entry runs) (entry notes)) (f p : ℕ) (left right : Run C) (is_left : entry runs f ≡ Some left) (is_right : entry runs p ≡ Some right)
    (meet : left.end ≡ p) where
  pub before : f < p
  before = let some = (are.runs f left is_left).some in omega (arith, meet)

  pub left_place : f < length runs
  left_place = in_place runs f left is_left

  pub right_place : p < length runs
  right_place = in_place runs p right is_right

  pub left_value : value f p left.content
  left_value = subst (λ k. value f k left.content) meet (are.runs f left is_left).content

  -- ---- as one

  module _ (gone spare : Option (Run C)) (none : gone ≡ None) (both : Run C) (end : both.end ≡ right.end) (is_value : value f right.end both.content) where
    abbrev one : List (Option (Run C))
    one = set (set (set runs p gone) f spare) f (Some both)

    one_short : one ≡ set (set runs p None) f (Some both)
    one_short = set-set (set runs p gone) f spare (Some both) ∙ ap (λ o. set (set runs p o) f (Some both)) none

    noted_right : entry notes (both.end - 1) ≡ Some p
    noted_right = ap (λ k. entry notes (k - 1)) end ∙ (are.runs p right is_right).noted

    pub note_place : both.end - 1 < length notes
    note_place = in_place notes (both.end - 1) p noted_right

    taken_out : IsSet (entry runs) (entry (set runs p None)) p None
    taken_out = set_entry runs p None right_place

    put_in : IsSet (entry (set runs p None)) (entry (set (set runs p None) f (Some both))) f (Some both)
    put_in = let n = length-set runs p None in set_entry (set runs p None) f (Some both) (let lt = left_place in omega (arith, n))

    note_set : IsSet (entry notes) (entry (set notes (both.end - 1) (Some f))) (right.end - 1) (Some f)
    note_set = subst (λ k. IsSet (entry notes) (entry (set notes (both.end - 1) (Some f))) (k - 1) (Some f)) end (set_entry notes (both.end - 1) (Some f) note_place)

    pub one_are : AreRuns parts value (entry (set (set (set runs p gone) f spare) f (Some both))) (entry (set notes (both.end - 1) (Some f)))
    one_are =
        let lt = before in
        let other : p ≢ f = λ e. absurd (omega arith) in
        subst (λ xs. AreRuns parts value (entry xs) (entry (set notes (both.end - 1) (Some f)))) (sym one_short)
        (one_runs parts value (entry runs) (entry (set (set runs p None) f (Some both))) (entry notes) (entry (set notes (both.end - 1) (Some f))) are f p left right both
        is_left is_right meet end is_value put_in.here (put_in.others p other ∙ taken_out.here) (λ k a b. put_in.others k a ∙ taken_out.others k b) note_set)

    pub one_flags : map is_some (set notes (both.end - 1) (Some f)) ≡ map is_some notes
    one_flags = map-set_same is_some notes (both.end - 1) (Some f) None (sym (ap is_some noted_right))

    pub one_ends : ends_of (set (set (set runs p gone) f spare) f (Some both)) ≡ set (set (ends_of runs) p None) f (end_at (ends_of runs) p)
    one_ends =
        let last : end_at (ends_of runs) p ≡ Some both.end = ends_is runs p ∙ ap end_in is_right ∙ ap (λ k. Some k) (sym end) in
        ap ends_of one_short ∙ map-set end_in (set runs p None) f (Some both) ∙ ap₂ (λ es o. set es f o) (map-set end_in runs p None) (sym last)

    pub one_length : length (set (set (set runs p gone) f spare) f (Some both)) ≡ length runs
    one_length = length-set (set (set runs p gone) f spare) f (Some both) ∙ length-set (set runs p gone) f spare ∙ length-set runs p gone

  -- ---- as two again

  module _ (gone spare : Option (Run C)) (l r : Run C) (left_end : l.end ≡ left.end) (right_end : r.end ≡ right.end)
      (left_is : value f p l.content) (right_is : value p right.end r.content) where
    two_short : set (set (set (set runs p gone) f spare) f (Some l)) p (Some r) ≡ set (set runs f (Some l)) p (Some r)
    two_short =
        let lt = before in
        let other : p ≢ f = λ e. absurd (omega arith) in
        ap (λ xs. set xs p (Some r)) (set-set (set runs p gone) f spare (Some l) ∙ set_comm runs p f gone (Some l) other) ∙ set-set (set runs f (Some l)) p gone (Some r)

    left_in : IsSet (entry runs) (entry (set runs f (Some l))) f (Some l)
    left_in = set_entry runs f (Some l) left_place

    right_in : IsSet (entry (set runs f (Some l))) (entry (set (set runs f (Some l)) p (Some r))) p (Some r)
    right_in = let n = length-set runs f (Some l) in set_entry (set runs f (Some l)) p (Some r) (let lt = right_place in omega (arith, n))

    still_right : entry (set runs f (Some l)) p ≡ Some right
    still_right = let lt = before in left_in.others p (λ e. absurd (omega arith)) ∙ is_right

    pub two_are : AreRuns parts value (entry (set (set (set (set runs p gone) f spare) f (Some l)) p (Some r))) (entry notes)
    two_are = subst (λ xs. AreRuns parts value (entry xs) (entry notes)) (sym two_short)
        (again_runs parts value (entry (set runs f (Some l))) (entry (set (set runs f (Some l)) p (Some r))) (entry notes)
        (again_runs parts value (entry runs) (entry (set runs f (Some l))) (entry notes) are f left l is_left left_end (subst (λ k. value f k l.content) (sym meet) left_is) left_in)
        p right r still_right right_end right_is right_in)

    pub two_ends : ends_of (set (set (set (set runs p gone) f spare) f (Some l)) p (Some r)) ≡ ends_of runs
    two_ends =
        let same_left : end_in (Some l) ≡ end_in (entry runs f) = ap (λ k. Some k) left_end ∙ sym (ap end_in is_left) in
        let same_right : end_in (Some r) ≡ end_in (entry (set runs f (Some l)) p) = ap (λ k. Some k) right_end ∙ sym (ap end_in still_right) in
        ap ends_of two_short ∙ map-set_same end_in (set runs f (Some l)) p (Some r) None same_right ∙ map-set_same end_in runs f (Some l) None same_left

    pub two_length : length (set (set (set (set runs p gone) f spare) f (Some l)) p (Some r)) ≡ length runs
    two_length = ap length two_short ∙ length-set (set runs f (Some l)) p (Some r) ∙ length-set runs f (Some l)

-- ---- what was taken out

-- the run at f ends where the one at p begins
pub record Taken {C : Type 0} (runs : List (Option (Run C))) (f p : ℕ) (left right : Run C) : Type 0 where
  pub is_left : entry runs f ≡ Some left
  pub is_right : entry runs p ≡ Some right
  pub meet : left.end ≡ p

module _ {C : Type 0} (parts : ℕ) (value : ℕ → ℕ → C → Type 0) (runs : List (Option (Run C))) (notes : List (Option ℕ))
    (are : AreRuns parts value (entry runs) (entry notes)) (f p : ℕ) (m : MeetAt (ends_of runs) f p) where
  pub first_run : (r : Run C) × (entry runs f ≡ Some r) × (r.end ≡ p)
  first_run = left_run parts value runs notes are f p m

  pub second_run : (r : Run C) × (entry runs p ≡ Some r)
  second_run = right_run parts value runs notes are f p m

  pub first_before : f < p
  first_before = before parts value runs notes are f p first_run.0 second_run.0 first_run.1 second_run.1 first_run.2

  pub second_place : p < length runs
  second_place = in_place runs p second_run.0 second_run.1

  pub first_place : f < length runs
  first_place = in_place runs f first_run.0 first_run.1

  -- what is taken out at p is a run
  pub second_there : (a s : Option (Run C)) → a ≡ get_or runs p a → s ≡ a → s ≡ Some second_run.0
  second_there a s x y = y ∙ sym (place_here runs p a second_place x) ∙ second_run.1

  -- and then, at f
  pub first_there : (gone b t : Option (Run C)) → b ≡ get_or (set runs p gone) f b → t ≡ b → t ≡ Some first_run.0
  first_there gone b t x y =
      let n = length-set runs p gone in
      let lt = first_before in
      y ∙ sym (place_here (set runs p gone) f b (let k = first_place in omega (arith, n)) x) ∙ (set_entry runs p gone second_place).others f (λ e. absurd (omega arith)) ∙ first_run.1

  pub taken : (gone a b s t : Option (Run C)) (left right : Run C) → a ≡ get_or runs p a → s ≡ a → s ≡ Some right → b ≡ get_or (set runs p gone) f b → t ≡ b → t ≡ Some left
      → Taken runs f p left right
  taken gone a b s t left right x y z u v w =
      let same_right : second_run.0 ≡ right = same_some second_run.0 right (sym (second_there a s x y) ∙ z) in
      let same_left : first_run.0 ≡ left = same_some first_run.0 left (sym (first_there gone b t u v) ∙ w) in
      record {
        is_left = first_run.1 ∙ ap (λ (r : Run C). Some r) same_left;
        is_right = second_run.1 ∙ ap (λ (r : Run C). Some r) same_right;
        meet = sym (ap (λ (r : Run C). r.end) same_left) ∙ first_run.2;
      }
