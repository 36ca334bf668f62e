use Rattle.std.proofs.Common.{◌≡◌, ℕ, List, [], true, false, length, Ok, Err, IsOk, refl, sym, ap, subst, ◌∙◌, inl, inr}
use Rattle.std.proofs.lemmas.Bool.{cases_lt}
use Rattle.spp_event.specs.declared.records.EventFault.{EventFault}
use Rattle.spp_event.specs.Items.{read_item}
use Rattle.spp_event.specs.Recordings.{Record, item}
use Rattle.spp_event.proofs.ItemPlaces.{item_is, item_is_none, next_place}
use Rattle.spp_event.proofs.ItemsRead.{no_item, whole_item, known_item}
use Rattle.spp_event.proofs.layout.known_whole_item_at.Goals as goal

not_ok : (r : Record) (f : EventFault) → r ≡ Err f → IsOk r → ⊥
not_ok r f e ok = let z : false ≡ true = subst (λ (x : Record). IsOk x) e ok in absurd cc

pub behind_item-next-requires : goal.behind_item-next-requires
behind_item-next-requires c =
    let body = c.args.body.now in
    elim (cases_lt c.args.place (length body)) [
      | inl more ↦ more
      | inr end ↦ absurd (not_ok _ _ (ap (λ (x : List ℕ). read_item c.requires.1 c.requires.2 x) (item_is_none body c.requires.0 c.args.place c.requires.3 end) ∙ no_item c.requires.1 c.requires.2 [] refl) c.requires.4)
    ]

pub unreachable-requires : goal.unreachable-requires
unreachable-requires c = by (read_item c.requires.1 c.requires.2 (item c.args.body.now c.requires.0)) refl c.requires.4
  where
    by : (r : Record) → read_item c.requires.1 c.requires.2 (item c.args.body.now c.requires.0) ≡ r → IsOk r → ⊥
    by (Err f) e good = let z : false ≡ true = good in absurd cc
    by (Ok x) e good =
        let w = whole_item c.requires.1 c.requires.2 (item c.args.body.now c.requires.0) x e in
        c.in_default.ensures.none refl x w.2 (sym (item_is c.args.body.now c.requires.0 c.args.place c.behind_item-next.result c.requires.3 c.behind_item-next.ensures) ∙ w.0)

pub returns-clause-said : goal.returns-clause-said
returns-clause-said c i sites funcs q ok =
    let s = c.in-Some.ensures.some in
    known_item sites funcs (item c.args.body.now i) c.in-Some.event s.1 (item_is c.args.body.now i c.args.place c.behind_item-next.result q c.behind_item-next.ensures ∙ s.0) ok

pub returns-clause-behind : goal.returns-clause-behind
returns-clause-behind c i q = next_place c.args.body.now i c.args.place c.behind_item-next.result q c.behind_item-next.ensures
