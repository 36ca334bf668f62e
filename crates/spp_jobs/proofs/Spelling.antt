-- No two jobs have one name, and a name tells the parts.
use Rattle.std.proofs.Common.{◌≡◌, ℕ, zero, suc, ◌+◌, ◌<◌, List, [], ◌∷◌, ◌++◌, length, map, get_or, take, drop, Ok, Err, refl, sym, ap, ap₂, subst, ◌∙◌, append_assoc, arith}
use Rattle.std.specs.List.{flat_map, sum}
use Rattle.std.proofs.lemmas.List.{length-map, get_or-map, get_or_append_left, take-append-le}
use Rattle.std.proofs.lemmas.List.Sums.{sum_by-cons}
use Rattle.spp_event.specs.declared.records.Event.TheVariants.{Strand, Call, Spawn, Ret, Sync}
use Rattle.spp_event.specs.declared.records.EventFault.{EventFault}
use Rattle.spp_event.specs.declared.records.EventFault.TheVariants.{Truncated, Tag, Padding, Operand, Site, Func}
use Rattle.spp_event.specs.declared.version.Version.{Version}
use Rattle.spp_event.specs.declared.version.Version.TheVariants.{One, Two}
use Rattle.spp_event.specs.Recordings.{Record, Recording, version_number}
use Rattle.spp_cut.specs.Parts.{PartOf, CutOf, Cover, IsCut}
use Rattle.spp_maxplus.specs.declared.state.Burdens.{Burdens}
use Rattle.spp_jobs.specs.Names.{Kind, surveys, tables, paths, profiles, JobOf, spell_kind, spell_fault, spell_record, spell_list, spell_lists, spell_trace, counts_of, spell, parts_in, range_in, IsNamed}

-- ---- lists

split_one : (xs ys r s : List ℕ) → length xs ≡ length ys → xs ++ r ≡ ys ++ s → (xs ≡ ys) × (r ≡ s)
split_one [] [] r s l e = (refl, e)
split_one [] (y ∷ ys) r s l e = absurd (omega arith)
split_one (x ∷ xs) [] r s l e = absurd (omega arith)
split_one (x ∷ xs) (y ∷ ys) r s l e =
    let first : x ≡ y = cc in
    let rest : xs ++ r ≡ ys ++ s = cc in
    let both = split_one xs ys r s (omega arith) rest in
    (ap₂ (λ z zs. z ∷ zs) first both.0, both.1)

list_one : (xs ys r s : List ℕ) → spell_list xs ++ r ≡ spell_list ys ++ s → (xs ≡ ys) × (r ≡ s)
list_one xs ys r s e =
    let long : length xs ≡ length ys = cc in
    let rest : xs ++ r ≡ ys ++ s = cc in
    split_one xs ys r s long rest

items_one : (xs ys : List (List ℕ)) (r s : List ℕ) → length xs ≡ length ys → flat_map spell_list xs ++ r ≡ flat_map spell_list ys ++ s → (xs ≡ ys) × (r ≡ s)
items_one [] [] r s l e = (refl, e)
items_one [] (y ∷ ys) r s l e = absurd (omega arith)
items_one (x ∷ xs) [] r s l e = absurd (omega arith)
items_one (x ∷ xs) (y ∷ ys) r s l e =
    let one = list_one x y (flat_map spell_list xs ++ r) (flat_map spell_list ys ++ s)
    (sym (append_assoc (spell_list x) (flat_map spell_list xs) r) ∙ e ∙ append_assoc (spell_list y) (flat_map spell_list ys) s) in
    let both = items_one xs ys r s (omega arith) one.1 in
    (ap₂ (λ z zs. z ∷ zs) one.0 both.0, both.1)

lists_one : (xs ys : List (List ℕ)) (r s : List ℕ) → spell_lists xs ++ r ≡ spell_lists ys ++ s → (xs ≡ ys) × (r ≡ s)
lists_one xs ys r s e =
    let long : length xs ≡ length ys = cc in
    let rest : flat_map spell_list xs ++ r ≡ flat_map spell_list ys ++ s = cc in
    items_one xs ys r s long rest

-- ---- records

fault_from : ℕ → EventFault
fault_from zero = Truncated
fault_from (suc zero) = Tag
fault_from (suc (suc zero)) = Padding
fault_from (suc (suc (suc zero))) = Site
fault_from (suc (suc (suc (suc zero)))) = Func
fault_from (suc (suc (suc (suc (suc n))))) = Operand

record_from : ℕ → ℕ → ℕ → Record
record_from zero a b = Ok (Strand a)
record_from (suc zero) a b = Ok (Call a b)
record_from (suc (suc zero)) a b = Ok (Spawn a b)
record_from (suc (suc (suc zero))) a b = Ok Ret
record_from (suc (suc (suc (suc zero)))) a b = Ok Sync
record_from (suc (suc (suc (suc (suc n))))) a b = Err (fault_from a)

first_from : List ℕ → Record
first_from [] = Ok Ret
first_from (tag ∷ []) = Ok Ret
first_from (tag ∷ a ∷ []) = Ok Ret
first_from (tag ∷ a ∷ b ∷ rest) = record_from tag a b

fault_read : (f : EventFault) → fault_from (spell_fault f) ≡ f
unfolding fault_from
fault_read Truncated = refl
fault_read Tag = refl
fault_read Padding = refl
fault_read Operand = refl
fault_read Site = refl
fault_read Func = refl

first_read : (x : Record) (r : List ℕ) → first_from (spell_record x ++ r) ≡ x
unfolding first_from record_from
first_read (Ok (Strand count)) r = refl
first_read (Ok (Call site func)) r = refl
first_read (Ok (Spawn site func)) r = refl
first_read (Ok Ret) r = refl
first_read (Ok Sync) r = refl
first_read (Err fault) r = ap (λ f. Err f) (fault_read fault)

rest_read : (x : Record) (r : List ℕ) → drop 3 (spell_record x ++ r) ≡ r
rest_read (Ok (Strand count)) r = refl
rest_read (Ok (Call site func)) r = refl
rest_read (Ok (Spawn site func)) r = refl
rest_read (Ok Ret) r = refl
rest_read (Ok Sync) r = refl
rest_read (Err fault) r = refl

some_read : (x : Record) (r : List ℕ) → 0 < length (spell_record x ++ r)
some_read (Ok (Strand count)) r = omega arith
some_read (Ok (Call site func)) r = omega arith
some_read (Ok (Spawn site func)) r = omega arith
some_read (Ok Ret) r = omega arith
some_read (Ok Sync) r = omega arith
some_read (Err fault) r = omega arith

records_one : (xs ys : List Record) → flat_map spell_record xs ≡ flat_map spell_record ys → xs ≡ ys
records_one [] [] e = refl
records_one [] (y ∷ ys) e =
    let some = some_read y (flat_map spell_record ys) in
    let none : length (spell_record y ++ flat_map spell_record ys) ≡ 0 = ap length (sym e) in
    absurd (omega arith)
records_one (x ∷ xs) [] e =
    let some = some_read x (flat_map spell_record xs) in
    let none : length (spell_record x ++ flat_map spell_record xs) ≡ 0 = ap length e in
    absurd (omega arith)
records_one (x ∷ xs) (y ∷ ys) e =
    let first : x ≡ y = sym (first_read x (flat_map spell_record xs)) ∙ ap first_from e ∙ first_read y (flat_map spell_record ys) in
    let rest : flat_map spell_record xs ≡ flat_map spell_record ys =
    sym (rest_read x (flat_map spell_record xs)) ∙ ap (drop 3) e ∙ rest_read y (flat_map spell_record ys) in
    ap₂ (λ z zs. z ∷ zs) first (records_one xs ys rest)

-- ---- a trace, and its parts

version_one : (v w : Version) → version_number v ≡ version_number w → v ≡ w
version_one One One e = refl
version_one Two Two e = refl
version_one One Two e = absurd (omega arith)
version_one Two One e = absurd (omega arith)

abbrev recording : List (List ℕ) → List (List ℕ) → ℕ → List Record → Version → List ℕ → Recording
recording funcs sites root records version body = record { funcs = funcs; sites = sites; root = root; records = records; version = version; body = body }

trace_one : (t u : Recording) → spell_trace t ≡ spell_trace u → t ≡ u
trace_one t u e =
    let rest_t = version_number t.version ∷ t.root ∷ flat_map spell_record t.records in
    let rest_u = version_number u.version ∷ u.root ∷ flat_map spell_record u.records in
    let f = lists_one t.funcs u.funcs (spell_lists t.sites ++ (spell_list t.body ++ rest_t)) (spell_lists u.sites ++ (spell_list u.body ++ rest_u)) e in
    let s = lists_one t.sites u.sites (spell_list t.body ++ rest_t) (spell_list u.body ++ rest_u) f.1 in
    let b = list_one t.body u.body rest_t rest_u s.1 in
    let tail : version_number t.version ∷ t.root ∷ flat_map spell_record t.records ≡ version_number u.version ∷ u.root ∷ flat_map spell_record u.records = b.1 in
    let number : version_number t.version ≡ version_number u.version = cc in
    let root : t.root ≡ u.root = cc in
    let rest : flat_map spell_record t.records ≡ flat_map spell_record u.records = cc in
    ap₂ (λ x y. recording x y t.root t.records t.version t.body) f.0 s.0
    ∙ ap₂ (λ x y. recording u.funcs u.sites x y t.version t.body) root (records_one t.records u.records rest)
    ∙ ap₂ (recording u.funcs u.sites u.root u.records) (version_one t.version u.version number) b.0

abbrev part : Recording → ℕ → ℕ → ℕ → PartOf
part t number first count = record { trace = t; number = number; first = first; count = count }

parts_one : (t : Recording) (number from e d : ℕ) (ps qs : List PartOf) → Cover t number from ps e → Cover t number from qs d
    → map (λ p. p.count) ps ≡ map (λ q. q.count) qs → ps ≡ qs
parts_one t number from e d [] [] h k same = refl
parts_one t number from e d [] (q ∷ qs) h k same = absurd (cc)
parts_one t number from e d (p ∷ ps) [] h k same = absurd (cc)
parts_one t number from e d (p ∷ ps) (q ∷ qs) h k same =
    let count : p.count ≡ q.count = cc in
    let rest : map (λ p. p.count) ps ≡ map (λ q. q.count) qs = cc in
    let one : p ≡ q =
    ap₂ (λ a b. part a b p.first p.count) (h.0 ∙ sym k.0) (h.1 ∙ sym k.1) ∙ ap₂ (part q.trace q.number) (h.2 ∙ sym k.2) count in
    let next = subst (λ n. Cover t (suc number) (from + n) qs d) (sym count) k.3 in
    ap₂ (λ z zs. z ∷ zs) one (parts_one t (suc number) (from + p.count) e d ps qs h.3 next rest)

-- ---- jobs

kind_one : (a b : Kind) → spell_kind a ≡ spell_kind b → a ≡ b
kind_one surveys surveys e = refl
kind_one tables tables e = refl
kind_one paths paths e = refl
kind_one profiles profiles e = refl
kind_one surveys tables e = absurd (omega arith)
kind_one surveys paths e = absurd (omega arith)
kind_one tables surveys e = absurd (omega arith)
kind_one tables paths e = absurd (omega arith)
kind_one paths surveys e = absurd (omega arith)
kind_one paths tables e = absurd (omega arith)
kind_one surveys profiles e = absurd (omega arith)
kind_one tables profiles e = absurd (omega arith)
kind_one paths profiles e = absurd (omega arith)
kind_one profiles surveys e = absurd (omega arith)
kind_one profiles tables e = absurd (omega arith)
kind_one profiles paths e = absurd (omega arith)

abbrev burdens : ℕ → ℕ → Burdens
burdens continuation join = record { continuation = continuation; join = join }

abbrev cut : Recording → List PartOf → CutOf
cut t ps = record { trace = t; parts = ps }

abbrev job : Kind → CutOf → Burdens → JobOf
job k c b = record { kind = k; cut = c; burdens = b }

-- a name names one job
pub spell_one : (a b : JobOf) → IsCut a.cut → IsCut b.cut → spell a ≡ spell b → a ≡ b
spell_one a b ha hb e =
    let counts = list_one (counts_of a.cut) (counts_of b.cut)
    (spell_kind a.kind ∷ a.burdens.continuation ∷ a.burdens.join ∷ spell_trace a.cut.trace)
    (spell_kind b.kind ∷ b.burdens.continuation ∷ b.burdens.join ∷ spell_trace b.cut.trace) e in
    let rest : spell_kind a.kind ∷ a.burdens.continuation ∷ a.burdens.join ∷ spell_trace a.cut.trace ≡ spell_kind b.kind ∷ b.burdens.continuation ∷ b.burdens.join ∷ spell_trace b.cut.trace = counts.1 in
    let kind : spell_kind a.kind ≡ spell_kind b.kind = cc in
    let continuation : a.burdens.continuation ≡ b.burdens.continuation = cc in
    let join : a.burdens.join ≡ b.burdens.join = cc in
    let tail : spell_trace a.cut.trace ≡ spell_trace b.cut.trace = cc in
    let trace = trace_one a.cut.trace b.cut.trace tail in
    let same : IsCut (cut b.cut.trace a.cut.parts) = subst (λ t. IsCut (cut t a.cut.parts)) trace ha in
    let parts = parts_one b.cut.trace 0 0 (length b.cut.trace.records) (length b.cut.trace.records) a.cut.parts b.cut.parts same hb counts.0 in
    ap₂ (λ k c. job k c a.burdens) (kind_one a.kind b.kind kind) (ap₂ cut trace parts) ∙ ap (job b.kind b.cut) (ap₂ burdens continuation join)

pub same_job : (kind : Kind) (name : List ℕ) (a b : JobOf) → IsNamed kind name a → IsNamed kind name b → a ≡ b
same_job kind name a b h k = spell_one a b h.cut k.cut (h.named ∙ sym k.named)

-- ---- what a name tells

pub parts_told : (j : JobOf) → parts_in (spell j) ≡ length j.cut.parts
parts_told j = length-map j.cut.parts (λ p. p.count)

pub first_is : (t : Recording) (number from end : ℕ) (ps : List PartOf) → Cover t number from ps end → (k : ℕ) (p : PartOf) → k < length ps
    → (get_or ps k p).first ≡ from + sum (take k (map (λ q. q.count) ps))
first_is t number from end [] h k p lt = absurd (omega arith)
first_is t number from end (q ∷ qs) h zero p lt = let e = h.2 in omega arith
first_is t number from end (q ∷ qs) h (suc k) p lt =
    let more = sum_by-cons (λ n. n) q.count (take k (map (λ q. q.count) qs)) in
    let rest = first_is t (suc number) (from + q.count) end qs h.3 k p (omega arith) in
    omega arith

pub range_told : (j : JobOf) → IsCut j.cut → (k : ℕ) (p : PartOf) → k < length j.cut.parts
    → range_in (spell j) k ≡ ((get_or j.cut.parts k p).first, (get_or j.cut.parts k p).count)
range_told j h k p lt =
    let counts = counts_of j.cut in
    let rest = spell_kind j.kind ∷ j.burdens.continuation ∷ j.burdens.join ∷ spell_trace j.cut.trace in
    let long : length counts ≡ length j.cut.parts = length-map j.cut.parts (λ q. q.count) in
    let first = first_is j.cut.trace 0 0 (length j.cut.trace.records) j.cut.parts h k p lt in
    let front : take k (counts ++ rest) ≡ take k counts = take-append-le k counts rest (omega arith) in
    let begins : sum (take k (counts ++ rest)) ≡ sum (take k counts) = ap sum front in
    let at : sum (take k (counts ++ rest)) ≡ (get_or j.cut.parts k p).first = omega arith in
    let count : get_or (counts ++ rest) k 0 ≡ (get_or j.cut.parts k p).count =
    get_or_append_left counts rest 0 k (omega arith) ∙ get_or-map (λ q. q.count) j.cut.parts k p 0 lt in
    ap₂ (λ a b. (a, b)) at count

pub range_is : (j : JobOf) → IsCut j.cut → (k : ℕ) (p : PartOf) → k < parts_in (spell j) → p ≡ get_or j.cut.parts k p → (p.first, p.count) ≡ range_in (spell j) k
range_is j h k p lt is =
    let within : k < length j.cut.parts = omega (arith, parts_told j) in
    ap (λ (q : PartOf). (q.first, q.count)) is ∙ sym (range_told j h k p within)
