use Rattle.std.proofs.Common.{◌++◌, List, ℕ, length}
use denote.Shadow.{shadow}
use denote.Text.{Utf8}
use Rattle.spp_text.specs.TextDrafts.{AreWholeLines, IsDraftOf}
use Rattle.spp_text.proofs.LineByLine.{IsReadTo}
use Rattle.spp_text.proofs.text_draft.TextDraft.followed_by.Given as goal

abbrev pub invariant-loop-rest : goal.invariant-loop-rest
invariant-loop-rest l = shadow (Utf8 l.rest) × ((before : List ℕ) → IsDraftOf l.fn.self before → AreWholeLines before → IsReadTo (before ++ l.text) l.rest l.number l.draft)

abbrev pub decreases-loop-rest : goal.decreases-loop-rest
decreases-loop-rest l = length l.rest
