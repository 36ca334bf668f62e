use Rattle.std.proofs.Common.{◌≡◌, ◌++◌, Ok, ℕ, List, length, ◌∙◌, sym, ap}
use Rattle.std.specs.List.{flat_map}
use Rattle.std.proofs.lemmas.List.{length-map}
use Rattle.spp_event.specs.declared.version.Version.TheVariants.{One}
use Rattle.spp_event.specs.Records.{spelling}
use Rattle.spp_event.specs.Header.{head_spelling}
use Rattle.spp_event.specs.Contents.{recording_of}
use Rattle.spp_event.proofs.WrittenBytes.{header_is, is_trace}
use Rattle.spp_event.proofs.writing.trace_bytes.Goals as goal

pub returns : goal.returns
returns c =
    let d = c.args.contents.now in
    let t = recording_of d in
    let b1 = c.push_head.new.bytes.items in
    let b2 = c.push_names.new.bytes.items in
    let b3 = c.push_names-2.new.bytes.items in
    let b4 = c.push_records.new.bytes.items in
    let head : b1 ≡ head_spelling One (length t.funcs) (length t.sites) t.root (length t.records) =
    rw c.new-bytes.ensures.items at c.in_ok-push_head.ensures
    ∙ ap (λ (n : ℕ). head_spelling One n (length d.sites.now) t.root (length d.events.now)) (sym (length-map d.funcs.now (λ x. x.now)))
    ∙ ap (λ (n : ℕ). head_spelling One (length t.funcs) n t.root (length d.events.now)) (sym (length-map d.sites.now (λ x. x.now)))
    ∙ ap (λ (n : ℕ). head_spelling One (length t.funcs) (length t.sites) t.root n) (sym (length-map d.events.now (λ x. Ok x))) in
    let es : b4 ≡ b3 ++ flat_map spelling d.events.now = rw c.in_ok-reserve.ensures.items at c.in_ok-push_records.ensures in
    is_trace d b4 c.requires.limits c.requires.names c.requires.events
    (es ∙ ap (λ (l : List ℕ). l ++ flat_map spelling d.events.now) (header_is t b1 b2 b3 head c.in_ok-push_names.ensures c.in_ok-push_names-2.ensures))
