-- The item that bytes begin with, behind which they go on with another or end.
use Rattle.std.proofs.Common.{◌≡◌, ℕ, ◌+◌, ◌-◌, ◌<◌, ◌≤◌, List, ◌∷◌, ◌++◌, length, take, drop, refl, sym, ap, ◌∙◌, arith}
use Rattle.std.proofs.lemmas.List.{length-drop, length-append, take_at, drop_at}
use Rattle.spp_event.specs.declared.records.Event.{Event}
use Rattle.spp_event.specs.Items.{item_of, items}
use Rattle.spp_event.specs.Places.{GoesOn, IsItemBetween}
use Rattle.spp_event.proofs.ItemBodies.{shape}
use Rattle.spp_event.proofs.ItemPlaces.{one_item, dropped}

-- the item goes from the place to where the rest begins, and its bytes are those of the event
pub record InFront (body : List ℕ) (place : ℕ) (e : Event) (rest : List ℕ) : Type 0 where
  pub between : IsItemBetween body place (length body - length rest)
  pub is : take (length body - length rest - place) (drop place body) ≡ item_of e

pub in_front_of : (body : List ℕ) (place : ℕ) (e : Event) (rest : List ℕ) → place ≤ length body → drop place body ≡ item_of e ++ rest → GoesOn rest → InFront body place e rest
in_front_of body place e rest le begins on =
    let s = shape e in
    let next = length body - length rest in
    let n = length (item_of e) in
    let some : 0 < n = omega (arith, ap (λ (l : List ℕ). length l) s.is) in
    let sum : length body - place ≡ n + length rest = sym (length-drop place body) ∙ ap (λ (l : List ℕ). length l) begins ∙ length-append (item_of e) rest in
    let size : next - place ≡ n = omega arith in
    let taken : take (next - place) (drop place body) ≡ item_of e = ap (λ (k : ℕ). take k (drop place body)) size ∙ ap (λ (l : List ℕ). take n l) begins ∙ take_at (item_of e) rest n refl in
    let left : drop next body ≡ rest = sym (dropped place n next body (omega arith)) ∙ ap (λ (l : List ℕ). drop n l) begins ∙ drop_at (item_of e) rest n refl in
    let parted : items (drop place body) ≡ item_of e ∷ items rest =
    ap items (begins ∙ ap (λ (l : List ℕ). l ++ rest) s.is) ∙ one_item s.lead s.rest rest s.low on ∙ ap (λ (l : List ℕ). l ∷ items rest) (sym s.is) in
    record {
      between = record {
        some = omega arith;
        within = omega arith;
        is = parted ∙ ap (λ (l : List ℕ). l ∷ items rest) (sym taken) ∙ ap (λ (l : List ℕ). take (next - place) (drop place body) ∷ items l) (sym left);
      };
      is = taken;
    }
