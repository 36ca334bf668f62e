-- What a block comes to where it stands in a trace.
use Rattle.std.proofs.Common.{◌≡◌, ℕ, ◌+◌, ◌++◌, List, length, take, sym, ap, subst, ◌∙◌, arith}
use Rattle.std.proofs.Math.Seq.{take-append_seam, take-append-add}
use Rattle.spp_event.specs.declared.version.Version.{Version}
use Rattle.spp_event.specs.Recordings.{Record, Recording, count_in, records_of}
use Rattle.spp_event.proofs.RecordPlaces.{length-records_of}
use Rattle.spp_maxplus.specs.declared.state.Burdens.{Burdens}
use Rattle.spp_piece.specs.Account.{Account, account_of, together}
use Rattle.spp_piece.proofs.Joins.{both_account}
use Rattle.spp_part.specs.declared.part_profile.PartProfile.{PartProfile}
use Rattle.spp_part.specs.declared.so_far.ProfileSoFar.{ProfileSoFar}
use Rattle.spp_part.specs.Parts.{IsPartProfile, IsSoFar}
use Rattle.spp_part.specs.RecordParts.{HasPart}
use Rattle.spp_crew.specs.declared.block.Block.{Block}
use Rattle.spp_crew.specs.Blocks.{IsBlockAt, IsPartOf, IsSummaryOf, IsSummaryOfFirst, count_of, records_in}

module _ (t : Recording) (b : Burdens) (i : ℕ) (block : Block) (at : IsBlockAt t b i block) where
  pub part_at : (part : PartProfile) → IsPartOf block part → IsPartProfile t b i (count_of block) part
  part_at part is = subst (λ (c : Burdens). IsPartProfile t c i (count_of block) part) at.under (is t i at.part)

  -- its records, by its bytes as they were found
  pub read_there : (v : Version) → block.version ≡ v → (l : List ℕ) → l ≡ block.bytes.items → count_of block ≡ count_in block.version (take block.len block.bytes.items)
      → HasPart t block.sites block.funcs i (records_of v block.sites block.funcs (count_in v (take block.len l)) (take block.len l))
  read_there v is l e counted =
      subst (λ (w : Version). HasPart t block.sites block.funcs i (records_of w block.sites block.funcs (count_in w (take block.len l)) (take block.len l))) is
      (subst (λ (m : List ℕ). HasPart t block.sites block.funcs i (records_of block.version block.sites block.funcs (count_in block.version (take block.len m)) (take block.len m))) (sym e)
      (subst (λ (n : ℕ). HasPart t block.sites block.funcs i (records_of block.version block.sites block.funcs n (take block.len block.bytes.items))) counted at.part))

  before_is : take i t.records ≡ at.part.before
  before_is = ap (λ (l : List Record). take i l) at.part.records ∙ ap (λ (n : ℕ). take n (at.part.before ++ (records_in block ++ at.part.behind))) (sym at.part.at) ∙ take-append_seam at.part.before (records_in block ++ at.part.behind)

  both_are : take (i + count_of block) t.records ≡ at.part.before ++ records_in block
  both_are =
      ap (λ (l : List Record). take (i + count_of block) l) at.part.records
      ∙ ap (λ (n : ℕ). take (n + count_of block) (at.part.before ++ (records_in block ++ at.part.behind))) (sym at.part.at)
      ∙ take-append-add at.part.before (records_in block ++ at.part.behind) (count_of block)
      ∙ ap (λ (n : ℕ). at.part.before ++ take n (records_in block ++ at.part.behind)) (sym (length-records_of block.version block.sites block.funcs (count_of block) (take block.len block.bytes.items)))
      ∙ ap (λ (l : List Record). at.part.before ++ l) (take-append_seam (records_in block) at.part.behind)

  -- the summary of the records before and that of the block are that of both
  pub summary_with : (left right : Account) → IsSummaryOfFirst t b i left → IsSummaryOf block right → IsSummaryOfFirst t b (i + count_of block) (together left right)
  summary_with left right is_left is_right =
      let from : length at.part.before ≡ 0 + length at.part.before = omega arith in
      let first : left ≡ account_of b 0 at.part.before = is_left ∙ ap (λ (l : List Record). account_of b 0 l) before_is in
      let second : right ≡ account_of b (0 + length at.part.before) (records_in block) =
      is_right ∙ ap (λ (c : Burdens). account_of c block.first (records_in block)) at.under ∙ ap (λ (n : ℕ). account_of b n (records_in block)) (at.first ∙ sym at.part.at ∙ from) in
      ap (λ (x : Account). together x right) first ∙ ap (λ (x : Account). together (account_of b 0 at.part.before) x) second
      ∙ both_account b 0 at.part.before (records_in block) ∙ ap (λ (l : List Record). account_of b 0 l) (sym both_are)

pub so_far_there : (t : Recording) (b : Burdens) (k : ℕ) (block : Block) (v : Version) → block.version ≡ v → (l : List ℕ) (r : ProfileSoFar) → l ≡ block.bytes.items → count_of block ≡ count_in block.version (take block.len block.bytes.items)
    → IsSoFar t b (k + count_in v (take block.len l)) r → IsSoFar t b (k + count_of block) r
so_far_there t b k block v is l r e counted so_far =
    subst (λ (n : ℕ). IsSoFar t b (k + n) r) (sym counted)
    (subst (λ (m : List ℕ). IsSoFar t b (k + count_in block.version (take block.len m)) r) e
    (subst (λ (w : Version). IsSoFar t b (k + count_in w (take block.len l)) r) (sym is) so_far))
