use Rattle.std.proofs.Common.{◌≡◌, ℕ}
use Rattle.spp_maxplus.specs.declared.state.Burdens.{Burdens}
use Rattle.spp_maxplus.specs.declared.state.State.{State}
use Rattle.spp_maxplus.specs.declared.seg.Seg.{Seg}
use Rattle.spp_maxplus.proofs.SegLaws as one
use Rattle.spp_piece.specs.declared.states.States.{States}
use Rattle.spp_piece.specs.declared.segs.Segs.{Segs}
use Rattle.spp_piece.specs.declared.pieces.Frame.{Frame}
use Rattle.spp_maxplus.specs.declared.child.ChildKind.{ChildKind}
use Rattle.spp_maxplus.specs.declared.child.ChildKind.TheVariants.{Called, Spawned}
use Rattle.spp_piece.specs.Pair.{act, free, then, idle, strand, sync, fed, fed_by, after_strand, after_sync, after_return, after_return_by}

states : (a b c d : State) → a ≡ c → b ≡ d → ◌≡◌ {A = States} (record { plain = a; burdened = b }) (record { plain = c; burdened = d })
states a b c d e f = cc

segs : (a b c d : Seg) → a ≡ c → b ≡ d → ◌≡◌ {A = Segs} (record { plain = a; burdened = b }) (record { plain = c; burdened = d })
segs a b c d e f = cc

pub act_idle : (x : States) → act idle x ≡ x
act_idle x = states _ _ _ _ (one.act_idle x.plain) (one.act_idle x.burdened)

pub act-then : (a b : Segs) (x : States) → act (then a b) x ≡ act b (act a x)
act-then a b x = states _ _ _ _ (one.act-then a.plain b.plain x.plain) (one.act-then a.burdened b.burdened x.burdened)

pub then_idle : (a : Segs) → then a idle ≡ a
then_idle a = segs _ _ _ _ (one.then_idle a.plain) (one.then_idle a.burdened)

pub idle_then : (a : Segs) → then idle a ≡ a
idle_then a = segs _ _ _ _ (one.idle_then a.plain) (one.idle_then a.burdened)

pub then_assoc : (a b c : Segs) → then (then a b) c ≡ then a (then b c)
then_assoc a b c = segs _ _ _ _ (one.then_assoc a.plain b.plain c.plain) (one.then_assoc a.burdened b.burdened c.burdened)

pub act-strand : (count : ℕ) (x : States) → act (strand count) x ≡ after_strand count x
act-strand count x = states _ _ _ _ (one.act-strand count x.plain) (one.act-strand count x.burdened)

pub act-sync : (x : States) → act sync x ≡ after_sync x
act-sync x = states _ _ _ _ (one.act-sync x.plain) (one.act-sync x.burdened)

fed_kind : (k : ChildKind) (burdens : Burdens) (at g h : ℕ) (x : States) → act (fed_by k burdens at g h) x ≡ after_return_by k burdens at g h x
fed_kind Called burdens at g h x = states _ _ _ _ (one.act-call g x.plain) (one.act-call h x.burdened)
fed_kind Spawned burdens at g h x = states _ _ _ _ (one.act-spawn at g free x.plain) (one.act-spawn at h burdens x.burdened)

pub act-fed : (burdens : Burdens) (f : Frame) (x : States) → act (fed burdens f) x ≡ after_return burdens f x
act-fed burdens f x = fed_kind f.kind burdens f.at _ _ x
