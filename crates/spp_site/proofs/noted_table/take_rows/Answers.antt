use Rattle.std.proofs.Common.{◌≡◌, ◌+◌, ◌<◌, ◌≤◌, ◌++◌, ◌∷◌, [], ℕ, List, Vec, Global, Option, length, set, drop, get_or, ap, ap₂, sym, subst, ◌∙◌, arith}
use Rattle.std.proofs.lemmas.List.{length-set}
use Rattle.spp_dag.specs.Shares.{plus}
use Rattle.spp_site.specs.declared.narrow_row.NarrowRow.{NarrowRow}
use Rattle.spp_site.specs.declared.narrow_row.KnownRow.{KnownRow}
use Rattle.spp_site.specs.NarrowRows.{narrow_row, zero_narrow, narrow_at, at_site, known_rows, AreNoted}
use Rattle.spp_site.proofs.Rows.{plus-assoc}
use Rattle.spp_site.proofs.NarrowRows.{known_more, found_at}
use Rattle.spp_site.proofs.Noted.{next_noted, noted_taken, noted_past, taken_one}
use Rattle.spp_site.proofs.noted_table.take_rows.Goals.{then-at-len+in_ok-push, else-at-len}
use Rattle.spp_site.proofs.noted_table.take_rows.Goals as goal

pub loop-site-preserved : goal.loop-site-preserved
loop-site-preserved c =
    let ns : List ℕ = c.args.noted.now in
    let k : ℕ = c.loop-site.site-index in
    let n : ℕ = get_or ns k 0 in
    let rest : List ℕ = drop (k + 1) ns in
    let rows : List NarrowRow = c.loop-site.rows.items in
    let taken : List KnownRow = c.loop-site.taken.items in
    let at : c.from-at.result ≡ n = c.from-at.ensures in
    let noted : AreNoted (n ∷ rest) rows = next_noted ns k 0 rows c.loop-site-test.true c.loop-site.invariant.noted in
    elim c.if-at-len.branch [
      | then-at-len+in_ok-push w ↦
          let x : NarrowRow = w.index.result.now in
          let one : KnownRow = record { row = x; site = n } in
          let lt : n < length rows = (let z = w.if-at-len.true in omega (arith, z, at, c.len.ensures, c.loop-site.rows.ok.0)) in
          let found : x ≡ get_or rows n zero_narrow = found_at rows n x lt (w.index.ensures ∙ ap (λ (j : ℕ). get_or rows j x) at) in
          let left : c.if-at-len.rows.items ≡ set rows n zero_narrow = ap (λ (v : Vec NarrowRow Global). v.items) w.rows-is ∙ ap (λ (j : ℕ). set rows j zero_narrow) at in
          let out : c.if-at-len.taken.items ≡ taken ++ one ∷ [] = ap (λ (v : Vec KnownRow Global). v.items) w.taken-is ∙ w.in_ok-push.ensures.items in
          record {
            noted = subst (AreNoted rest) (sym left) (noted_taken rest n rows lt noted);
            small = (let z : length c.if-at-len.rows.items ≡ length rows = ap (λ (l : List NarrowRow). length l) left ∙ length-set rows n zero_narrow in omega (arith, z, c.loop-site.invariant.small));
            sums = λ (key : Option ℕ).
                ap₂ (λ (l : List KnownRow) (r : List NarrowRow). plus (known_rows l key) (narrow_at r key)) out left
                ∙ ap (λ r. plus r (narrow_at (set rows n zero_narrow) key)) (known_more taken one key)
                ∙ plus-assoc (known_rows taken key) (at_site n (narrow_row x) key) (narrow_at (set rows n zero_narrow) key)
                ∙ ap (plus (known_rows taken key)) (taken_one rows n x lt found key)
                ∙ c.loop-site.invariant.sums key;
          }
      | else-at-len w ↦
          let le : length rows ≤ n = (let z = w.if-at-len.false in omega (arith, z, at, c.len.ensures, c.loop-site.rows.ok.0)) in
          let same : c.if-at-len.rows.items ≡ rows = ap (λ (v : Vec NarrowRow Global). v.items) w.rows-is in
          record {
            noted = subst (AreNoted rest) (sym same) (noted_past rest n rows le noted);
            small = subst (λ (l : List NarrowRow). length l ≤ 65536) (sym same) c.loop-site.invariant.small;
            sums = λ (key : Option ℕ).
                ap₂ (λ (l : List KnownRow) (r : List NarrowRow). plus (known_rows l key) (narrow_at r key)) (ap (λ (v : Vec KnownRow Global). v.items) w.taken-is) same ∙ c.loop-site.invariant.sums key;
          }
    ]
