-- The edges out of a position, as the code finds them.
use Rattle.std.proofs.Common.{◌≡◌, ℕ, suc, ◌<◌, ◌↔◌, Bool, true, false, refl, arith, sym, ◌∙◌, ap, ap₂, subst, inl, inr, List, Option, Some, None}
use Rattle.spp_event.specs.declared.records.Event.{Event}
use Rattle.spp_event.specs.declared.records.Event.TheVariants.{Strand, Call, Spawn, Ret, Sync}
use Rattle.spp_maxplus.specs.declared.state.Burdens.{Burdens}
use Rattle.spp_dag.specs.Trace.{event_at, spawns, partner, owner, join}
use Rattle.spp_dag.specs.Dag as dag
use Rattle.spp_reference.specs.declared.dag.Edge.{Edge}
use Rattle.spp_reference.specs.Dags.{edge, HasEdge}

pub same_edge : (to c₀ v c : ℕ) → Some (edge to c₀) ≡ Some (edge v c) → (v ≡ to) × (c ≡ c₀)
same_edge to c₀ v c e =
    let q : edge to c₀ ≡ edge v c = cc in
    (sym (ap (λ (x : Edge). x.to) q), sym (ap (λ (x : Edge). x.burden) q))

from_edge : (to c₀ v c : ℕ) → (v ≡ to) × (c ≡ c₀) → Some (edge to c₀) ≡ Some (edge v c)
from_edge to c₀ v c h = ap₂ (λ a b. Some (edge a b)) (sym h.0) (sym h.1)

-- ---- out of a return

back_of : (es : List Event) (b : Burdens) (s : Bool) (o u to c₀ : ℕ) → (s ≡ true → (to ≡ join es o) × (c₀ ≡ b.join)) → (s ≡ false → (to ≡ suc u) × (c₀ ≡ 0))
    → (v c : ℕ) → dag.EdgeBack es b s o u v c ↔ (Some (edge to c₀) ≡ Some (edge v c))
back_of es b true o u to c₀ into past v c =
    let h = into refl in (
      λ e. from_edge to c₀ v c (e.0 ∙ sym h.0, e.1 ∙ sym h.1),
      λ e. let k = same_edge to c₀ v c e in (k.0 ∙ h.0, k.1 ∙ h.1),
    )
back_of es b false o u to c₀ into past v c =
    let h = past refl in (
      λ e. from_edge to c₀ v c (e.0 ∙ sym h.0, e.1 ∙ sym h.1),
      λ e. let k = same_edge to c₀ v c e in (k.0 ∙ h.0, k.1 ∙ h.1),
    )

pub back_is : (es : List Event) (b : Burdens) (f o u to c₀ : ℕ) → f ≡ suc o
    → (spawns (event_at es o) ≡ true → (to ≡ join es o) × (c₀ ≡ b.join)) → (spawns (event_at es o) ≡ false → (to ≡ suc u) × (c₀ ≡ 0))
    → (v c : ℕ) → dag.ReturnEdge es b f u v c ↔ (Some (edge to c₀) ≡ Some (edge v c))
back_is es b f o u to c₀ q into past v c =
    subst (λ k. dag.ReturnEdge es b k u v c ↔ (Some (edge to c₀) ≡ Some (edge v c))) (sym q) (back_of es b (spawns (event_at es o)) o u to c₀ into past v c)

-- ---- out of a position

pub return_are : (es : List Event) (b : Burdens) (u : ℕ) (back : Option Edge) → event_at es u ≡ Some Ret
    → ((v c : ℕ) → dag.ReturnEdge es b (owner es u) u v c ↔ (back ≡ Some (edge v c)))
    → (v c : ℕ) → dag.Edge es b u v c ↔ HasEdge (record { first = back; second = None }) v c
return_are es b u back q h v c =
    subst (λ e. dag.EdgeOf es b e u v c ↔ HasEdge (record { first = back; second = None }) v c) (sym q)
    (λ e. inl ((h v c).0 e), λ k. elim k [ inl e ↦ (h v c).1 e | inr e ↦ (cc) ])

pub spawn_are : (es : List Event) (b : Burdens) (u s f on next : ℕ) → event_at es u ≡ Some (Spawn s f) → on ≡ suc u → next ≡ suc (partner es u)
    → (v c : ℕ) → dag.Edge es b u v c ↔ HasEdge (record { first = Some (edge on 0); second = Some (edge next b.continuation) }) v c
spawn_are es b u s f on next q a n v c =
    subst (λ e. dag.EdgeOf es b e u v c ↔ HasEdge (record { first = Some (edge on 0); second = Some (edge next b.continuation) }) v c) (sym q) (
      λ k. elim k [
        | inl e ↦ inl (from_edge on 0 v c (e.0 ∙ sym a, e.1))
        | inr e ↦ inr (from_edge next b.continuation v c (e.0 ∙ sym n, e.1))
      ],
      λ k. elim k [
        | inl e ↦ (let g = same_edge on 0 v c e in inl (g.0 ∙ a, g.1))
        | inr e ↦ (let g = same_edge next b.continuation v c e in inr (g.0 ∙ n, g.1))
      ],
    )

on_of : (es : List Event) (b : Burdens) (u on : ℕ) (e : Event) → (e ≡ Ret → ⊥) → ((s f : ℕ) → e ≡ Spawn s f → ⊥) → on ≡ suc u
    → (v c : ℕ) → dag.EdgeOf es b (Some e) u v c ↔ ((v ≡ on) × (c ≡ 0))
on_of es b u on (Strand n) r s q v c = (λ h. (h.0 ∙ sym q, h.1), λ h. (h.0 ∙ q, h.1))
on_of es b u on (Call x f) r s q v c = (λ h. (h.0 ∙ sym q, h.1), λ h. (h.0 ∙ q, h.1))
on_of es b u on (Spawn x f) r s q v c = absurd (s x f refl)
on_of es b u on Ret r s q v c = absurd (r refl)
on_of es b u on Sync r s q v c = (λ h. (h.0 ∙ sym q, h.1), λ h. (h.0 ∙ q, h.1))

pub on_are : (es : List Event) (b : Burdens) (u on : ℕ) (e : Event) → event_at es u ≡ Some e → (e ≡ Ret → ⊥) → ((s f : ℕ) → e ≡ Spawn s f → ⊥) → on ≡ suc u
    → (v c : ℕ) → dag.Edge es b u v c ↔ HasEdge (record { first = Some (edge on 0); second = None }) v c
on_are es b u on e p r s q v c =
    let h = on_of es b u on e r s q v c in
    subst (λ x. dag.EdgeOf es b x u v c ↔ HasEdge (record { first = Some (edge on 0); second = None }) v c) (sym p)
    (λ k. inl (from_edge on 0 v c (h.0 k)), λ k. elim k [ inl x ↦ h.1 (same_edge on 0 v c x) | inr x ↦ (cc) ])

-- of two edges in these places the second leads further
pub in_order : (a c b d : ℕ) → a < b → (e f : Edge) → Some (edge a c) ≡ Some e → Some (edge b d) ≡ Some f → e.to < f.to
in_order a c b d l e f p q =
    let x : edge a c ≡ e = cc in
    let y : edge b d ≡ f = cc in
    let m : a ≡ e.to = ap (λ (z : Edge). z.to) x in
    let n : b ≡ f.to = ap (λ (z : Edge). z.to) y in
    omega arith
