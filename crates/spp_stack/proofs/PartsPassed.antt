-- What is known when some parts have been gone through.
use Rattle.std.proofs.Common.{◌≡◌, ℕ, zero, suc, ◌+◌, ◌-◌, ◌*◌, ◌<◌, ◌≤◌, ◌^◌, List, [], ◌∷◌, ◌++◌, length, get_or, take, drop, Option, Some, None, Ok, refl, sym, ap, subst, ◌∙◌, inl, inr, arith}
use Rattle.std.specs.Prelude.{slice_get}
use Rattle.std.specs.List.{sum_by}
use Rattle.std.proofs.lemmas.List.{drop_more, take_more, take-append-drop, drop-drop}
use Rattle.std.proofs.lemmas.List.Sums.{sum_by-append, sum_by-take-le}
use Rattle.std.proofs.lemmas.Bool.{cases_lt}
use Rattle.spp_event.specs.declared.records.Event.{Event}
use Rattle.spp_event.specs.declared.records.Event.TheVariants.{Strand, Call, Spawn, Ret, Sync}
use Rattle.spp_event.specs.declared.records.EventFault.{EventFault}
use Rattle.spp_event.specs.Recordings.{Record}
use Rattle.spp_frame.specs.Nesting as nesting
use Rattle.spp_maxplus.specs.declared.state.Burdens.{Burdens}
use Rattle.spp_dag.specs.declared.stack.EntryFrame.{EntryFrame}
use Rattle.spp_dag.specs.Trace.{records, weight_of}
use Rattle.spp_dag.specs.Limits as limits
use Rattle.spp_dag.specs.Limits.{AreSmall}
use Rattle.spp_dag.specs.Stack.{root_frame}
use Rattle.std.proofs.lemmas.Option.{slice_get_within}
use Rattle.spp_dag.proofs.Bounds.{work_fits}
use Rattle.spp_piece.specs.Account.{Account}
use Rattle.spp_piece.specs.Machine.{event, events}
use Rattle.spp_piece.specs.Summary.{Sum, empty, summary_ops, summary_of, play, play_fault, play_frames, play_returns}
use Rattle.spp_piece.specs.Bound.{IsSmall, IsCount, worst, load, most_before}
use Rattle.spp_piece.proofs.Small.{small_event, small_empty}
use Rattle.spp_stack.specs.declared.node.Node.{Node}
use Rattle.spp_stack.specs.declared.stacks.Start.{Start}
use Rattle.spp_stack.specs.declared.stack_builder.StackBuilder.{StackBuilder}
use Rattle.spp_stack.specs.Chain.{IsChain}
use Rattle.spp_stack.specs.Parts.{AreAccounts, AreOfParts, begin_of, open_count, IsEntryOf}
use Rattle.spp_stack.specs.Machine.{Now, now, entry_ops, IsOpen, peaks, root_entry}
use Rattle.spp_stack.specs.StackBuilder.{HoldsAll, Stands, IsKept, AreKept}
use Rattle.spp_stack.proofs.Chains.{get_more, get_last}
use Rattle.spp_stack.proofs.Following.{Follows, next, part_follows, open_entry, entry_fits}

-- ---- a summary's weights

count_is : (e : Event) → weight_of (Some e) < 2 ^ 64 → IsCount (Ok e)
count_is (Strand n) h = h
count_is (Call s u) h = tt
count_is (Spawn s u) h = tt
count_is Ret h = tt
count_is Sync h = tt

small_part : (es : List Event) → limits.IsSmall es → (burdens : Burdens) (n i : ℕ) (rs more : List Record) (s : Sum) → drop i (records es) ≡ rs ++ more
    → IsSmall burdens n s → IsSmall burdens (n + length rs) (events (summary_ops burdens) i rs s)
small_part es small burdens n i [] more s d h = subst (λ k. IsSmall burdens k s) (let z : n ≡ n + 0 = omega arith in z) h
small_part es small burdens n i (r ∷ rs) more s d h =
    let m = next es i r (rs ++ more) d in
    let fits : weight_of (Some m.e) < 2 ^ 64 = subst (λ o. weight_of o < 2 ^ 64) m.at (small.strands i) in
    let count : IsCount r = subst (λ q. IsCount q) (sym m.is) (count_is m.e fits) in
    let up : suc i ≡ i + 1 = omega arith in
    let left : drop (i + 1) (records es) ≡ rs ++ more = subst (λ k. drop k (records es) ≡ rs ++ more) up m.left in
    subst (λ k. IsSmall burdens k (events (summary_ops burdens) (i + 1) rs (event (summary_ops burdens) i r s))) (let z : n + 1 + length rs ≡ n + suc (length rs) = omega arith in z)
    (small_part es small burdens (n + 1) (i + 1) rs more (event (summary_ops burdens) i r s) left (small_event burdens n i r s count h))

open_sound : (burdens : Burdens) (s : Sum) (x : Now) → IsOpen (play (entry_ops burdens) s x).frames → s.fault ≡ None
open_sound burdens s x h = by s.fault refl
  where
    by : (q : Option (ℕ × EventFault)) → s.fault ≡ q → s.fault ≡ None
    by None e = e
    by (Some q) e =
        let o = entry_ops burdens in
        let y = o.worked s.work (play_frames o s.frames (o.along s.middle (play_returns o s.returns x))) in
        absurd (subst (λ q. IsOpen (play_fault (entry_ops burdens) q y).frames) e h)

-- ---- the parts so far

pub record Gone (es : List Event) (burdens : Burdens) (root : ℕ) (accounts : List Account) (i : ℕ) (w : StackBuilder) : Type 0 where
  pub at : Now
  pub follows : Follows es burdens root (begin_of accounts i) at
  pub stands : Stands w at
  pub rest : AreAccounts burdens (begin_of accounts i) (drop (begin_of accounts i) (records es)) (drop i accounts)
  pub opened : open_count (take i accounts) ≤ begin_of accounts i

pub record Going (es : List Event) (burdens : Burdens) (root : ℕ) (accounts : List Account) (i : ℕ) (a : Account) (x : Now) : Type 0 where
  pub sound : a.sum.fault ≡ None
  pub goes : IsOpen (play (entry_ops a.burdens) a.sum x).frames
  pub load : AreSmall a.burdens → peaks x.frames + load a.burdens a.sum < 2 ^ 127
  pub frames : open_count (take i accounts) + length a.sum.frames ≤ 2 ^ 28
  pub before : x.work + most_before a.sum.frames < 2 ^ 128
  pub work : x.work + a.sum.work < 2 ^ 128
  pub opened : open_count (take (i + 1) accounts) ≡ open_count (take i accounts) + length a.sum.frames
  pub begin : begin_of accounts (i + 1) ≡ begin_of accounts i + a.events
  pub next : (v : StackBuilder) → Stands v (play (entry_ops a.burdens) a.sum x) → Gone es burdens root accounts (i + 1) v

sum_more : (f : Account → ℕ) (accounts : List Account) (i : ℕ) (a : Account) → i < length accounts → a ≡ get_or accounts i a
    → sum_by f (take (i + 1) accounts) ≡ sum_by f (take i accounts) + f a
sum_more f accounts i a lt is =
    ap (sum_by f) (take_more accounts i a lt) ∙ sum_by-append f (take i accounts) (get_or accounts i a ∷ [])
    ∙ ap (λ k. sum_by f (take i accounts) + k) (let q = ap f is in let z : 0 + f (get_or accounts i a) ≡ f a = omega arith in z)

pub going : (es : List Event) (burdens : Burdens) (root : ℕ) (accounts : List Account) → AreOfParts es burdens accounts → (i : ℕ) (a : Account) (w : StackBuilder) → i < length accounts → a ≡ get_or accounts i a
    → (g : Gone es burdens root accounts i w) → Going es burdens root accounts i a g.at
going es burdens root accounts p i a w lt is g =
    let b = begin_of accounts i in
    let rs = drop b (records es) in
    let e : drop i accounts ≡ a ∷ drop (i + 1) accounts = drop_more accounts i a lt ∙ ap (λ q. q ∷ drop (i + 1) accounts) (sym is) in
    let both : AreAccounts burdens b rs (a ∷ drop (i + 1) accounts) = subst (λ l. AreAccounts burdens b rs l) e g.rest in
    let part = take a.events rs in
    let events_are : a.events ≡ length part = ap (λ (c : Account). c.events) both.0 in
    let same : a.burdens ≡ burdens = ap (λ (c : Account). c.burdens) both.0 in
    let sum_is : a.sum ≡ summary_of burdens b part = ap (λ (c : Account). c.sum) both.0 in
    let split : drop b (records es) ≡ part ++ drop a.events rs = sym (take-append-drop a.events rs) in
    let after : Follows es burdens root (b + length part) (play (entry_ops burdens) (summary_of burdens b part) g.at) = part_follows es p.well_formed burdens root b part (drop a.events rs) g.at split g.follows in
    let begin : begin_of accounts (i + 1) ≡ b + a.events = sum_more (λ c. c.events) accounts i a lt is in
    let there : b + length part ≡ begin_of accounts (i + 1) = ap (λ k. b + k) (sym events_are) ∙ sym begin in
    let follows : Follows es burdens root (begin_of accounts (i + 1)) (play (entry_ops a.burdens) a.sum g.at) =
    subst (λ (c : Burdens). Follows es burdens root (begin_of accounts (i + 1)) (play (entry_ops c) a.sum g.at)) (sym same)
    (subst (λ k. Follows es burdens root k (play (entry_ops burdens) a.sum g.at)) there
    (subst (λ (s : Sum). Follows es burdens root (b + length part) (play (entry_ops burdens) s g.at)) (sym sum_is) after)) in
    let goes = open_entry es p.well_formed burdens root (begin_of accounts (i + 1)) follows.within _ _ follows.is in
    let small : IsSmall burdens (0 + length part) (summary_of burdens b part) = small_part es p.small burdens 0 b part (drop a.events rs) empty split (small_empty burdens) in
    let fits : IsSmall a.burdens a.events a.sum = subst (λ (c : Burdens). IsSmall c a.events a.sum) (sym same)
    (subst (λ (s : Sum). IsSmall burdens a.events s) (sym sum_is) (subst (λ k. IsSmall burdens k (summary_of burdens b part)) (let z : 0 + length part ≡ a.events = omega arith in z) small)) in
    let within = follows.within in
    let events_le = p.small.events in
    let all_work = work_fits es p.small in
    let opened = sum_more (λ c. length c.sum.frames) accounts i a lt is in
    let work_is = g.follows.is.3 in
    let work_small = sum_by-take-le nesting.weight (records es) b in
    let f1 = fits.work in
    let f2 = fits.load in
    let f3 = fits.depth in
    let f4 = fits.before in
    let o = g.opened in
    record {
      sound = open_sound a.burdens a.sum g.at goes;
      goes = goes;
      load = λ light.
          let now_fits = entry_fits es p.well_formed p.small burdens (subst (λ (c : Burdens). AreSmall c) same light) root b g.at g.follows in
          let few : a.events ≤ 268435456 = omega arith in
          let cap : worst a.burdens ≤ 8589934592 = omega (arith, light.continuation, light.join) in
          let product : worst a.burdens * a.events ≤ 8589934592 * 268435456 = grind arith in
          omega arith;
      frames = omega arith;
      before = omega arith;
      work = omega arith;
      opened = opened;
      begin = begin;
      next = λ v s. record {
        at = play (entry_ops a.burdens) a.sum g.at;
        follows = follows;
        stands = s;
        rest = subst (λ k. AreAccounts burdens k (drop k (records es)) (drop (i + 1) accounts)) (sym begin) (subst (λ l. AreAccounts burdens (b + a.events) l (drop (i + 1) accounts)) (drop-drop a.events b (records es)) both.1);
        opened = omega arith;
      };
    }

-- the stack that stands is a chain of nodes
pub start_chain : (w : StackBuilder) (x : Now) → IsKept w → Stands w x → (n : ℕ) → n + 1 ≡ length w.nodes.items → IsChain w.nodes.items (Some n) x.frames
start_chain w x kept s n last = by x.frames s.frames
  where
    at : length w.nodes.items - 1 ≡ n
    at = omega arith

    get : slice_get w.nodes.items n ≡ Some w.top
    get = subst (λ k. slice_get w.nodes.items k ≡ Some w.top) at kept.1

    by : (fs : List EntryFrame) → HoldsAll w fs → IsChain w.nodes.items (Some n) fs
    by [] h = absurd h
    by (f ∷ fs) h = (w.top, get, h.top, s.tree n w.top get, h.rest)

-- what was told is told still
pub told_more : (es : List Event) (burdens : Burdens) (root : ℕ) (accounts : List Account) (nodes more : List Node) (starts : List Start) (start : Start) (k : ℕ) → AreKept nodes more
    → IsEntryOf es burdens root accounts (record { nodes = nodes; starts = starts }) k → IsEntryOf es burdens root accounts (record { nodes = more; starts = starts ++ start ∷ [] }) k
told_more es burdens root accounts nodes more starts start k kept h = record {
  frames = h.frames;
  work = h.work;
  is = h.is;
  start = record {
    start = h.start.start;
    is = get_more starts (start ∷ []) k h.start.start h.start.is;
    at = h.start.at;
    chain = kept (Some h.start.start.top) h.frames h.start.chain;
    work = h.start.work;
  };
}

pub told_last : (es : List Event) (burdens : Burdens) (root : ℕ) (accounts : List Account) (w : StackBuilder) (starts : List Start) (top at work i : ℕ) (g : Gone es burdens root accounts i w) → IsKept w
    → top + 1 ≡ length w.nodes.items → at ≡ begin_of accounts i → work ≡ w.work → length starts ≡ i
    → IsEntryOf es burdens root accounts (record { nodes = w.nodes.items; starts = starts ++ record { top = top; at = at; work = work } ∷ [] }) i
told_last es burdens root accounts w starts top at work i g kept last begins same long = record {
  frames = g.at.frames;
  work = g.at.work;
  is = g.follows.is;
  start = record {
    start = record { top = top; at = at; work = work };
    is = get_last starts (record { top = top; at = at; work = work }) i (sym long);
    at = sym begins;
    chain = start_chain w g.at kept g.stands top last;
    work = sym g.stands.work ∙ sym same;
  };
}

pub gone_first : (es : List Event) (burdens : Burdens) (root : ℕ) (accounts : List Account) → AreOfParts es burdens accounts → (w : StackBuilder) → Stands w (now (root_entry root ∷ []) 0) → Gone es burdens root accounts 0 w
gone_first es burdens root accounts p w s = record {
  at = now (root_entry root ∷ []) 0;
  follows = record { within = omega arith; is = (root_frame root ∷ [], refl, refl, refl) };
  stands = s;
  rest = p.are;
  opened = omega arith;
}

pub tops_more : (starts : List Start) (s : Start) (m n : ℕ) → m ≤ n → s.top < n → ((k : ℕ) (t : Start) → slice_get starts k ≡ Some t → t.top < m)
    → (k : ℕ) (t : Start) → slice_get (starts ++ s ∷ []) k ≡ Some t → t.top < n
tops_more [] s m n le lt old zero t h = let e : s ≡ t = cc in subst (λ (u : Start). u.top < n) e lt
tops_more [] s m n le lt old (suc k) t h = let l = slice_get_within (s ∷ []) (suc k) t h in absurd (omega arith)
tops_more (x ∷ xs) s m n le lt old zero t h = let l = old zero t h in omega arith
tops_more (x ∷ xs) s m n le lt old (suc k) t h = tops_more xs s m n le lt (λ j u g. old (suc j) u g) k t h

pub told_next : (es : List Event) (burdens : Burdens) (root : ℕ) (accounts : List Account) (w v : StackBuilder) (starts all : List Start) (top at work i : ℕ) → ((k : ℕ) → k ≤ i → IsEntryOf es burdens root accounts (record { nodes = w.nodes.items; starts = starts }) k)
    → AreKept w.nodes.items v.nodes.items → Gone es burdens root accounts (i + 1) v → IsKept v → top + 1 ≡ length v.nodes.items → at ≡ begin_of accounts (i + 1) → work ≡ v.work → length starts ≡ i + 1
    → all ≡ starts ++ record { top = top; at = at; work = work } ∷ []
    → (k : ℕ) → k ≤ i + 1 → IsEntryOf es burdens root accounts (record { nodes = v.nodes.items; starts = all }) k
told_next es burdens root accounts w v starts all top at work i old chains g kept last begins same long is k le =
    subst (λ l. IsEntryOf es burdens root accounts (record { nodes = v.nodes.items; starts = l }) k) (sym is)
    (elim (cases_lt k (i + 1)) [
      | inl l ↦ told_more es burdens root accounts w.nodes.items v.nodes.items starts (record { top = top; at = at; work = work }) k chains (old k (omega arith))
      | inr l ↦
          let here : i + 1 ≡ k = omega arith in
          subst (λ j. IsEntryOf es burdens root accounts (record { nodes = v.nodes.items; starts = starts ++ record { top = top; at = at; work = work } ∷ [] }) j) here
          (told_last es burdens root accounts v starts top at work (i + 1) g kept last begins same long)
    ])

pub told_first : (es : List Event) (burdens : Burdens) (root : ℕ) (accounts : List Account) (w : StackBuilder) (all : List Start) → Gone es burdens root accounts 0 w → IsKept w → 1 ≡ length w.nodes.items → 0 ≡ w.work
    → all ≡ record { top = 0; at = 0; work = 0 } ∷ [] → (k : ℕ) → k ≤ 0 → IsEntryOf es burdens root accounts (record { nodes = w.nodes.items; starts = all }) k
told_first es burdens root accounts w all g kept one none is k le =
    let at : 0 ≡ k = omega arith in
    subst (λ l. IsEntryOf es burdens root accounts (record { nodes = w.nodes.items; starts = l }) k) (sym is)
    (subst (λ j. IsEntryOf es burdens root accounts (record { nodes = w.nodes.items; starts = record { top = 0; at = 0; work = 0 } ∷ [] }) j) at
    (told_last es burdens root accounts w [] 0 0 0 0 g kept (omega arith) refl none refl))
