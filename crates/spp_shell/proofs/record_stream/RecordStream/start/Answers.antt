use Rattle.std.proofs.Common.{◌≡◌, ◌-◌, ◌++◌, [], ℕ, List, length, take, drop, ap, sym, ◌∙◌, append-nil, arith}
use Rattle.std.proofs.lemmas.List.{take-append-drop, length-take-le, take-take}
use Rattle.spp_event.proofs.JoinedEvents.{none_joint}
use Rattle.spp_shell.proofs.RecordStreams.{none_whole}
use Rattle.spp_shell.proofs.record_stream.RecordStream.start.Goals as goal

pub returns-clause-streamed : goal.returns-clause-streamed
returns-clause-streamed g c =
    let n = c.args.came.filled in
    let len = c.args.head.len in
    let xs : List ℕ = take n c.args.came.bytes.items in
    let rest : List ℕ = take (n - len) c.truncate.new.self.items in
    let all : length xs ≡ n = length-take-le n c.args.came.bytes.items c.args.came.held in
    let is : rest ≡ drop len xs = ap (take (n - len)) c.truncate.ensures.items ∙ take-take (n - len) c.max.result c.move_to_front.new.bytes.items (omega (arith, c.max.ensures)) ∙ c.move_to_front.ensures.kept in
    record {
      done = [];
      parts = sym (take-append-drop len xs) ∙ ap (λ (l : List ℕ). take len xs ++ l) (sym is) ∙ ap (λ (l : List ℕ). l ++ rest) (sym (append-nil (take len xs)));
      is_head = c.requires.head;
      len = length-take-le len xs (omega (arith, c.requires.within));
      before_is = (let z = length-take-le len xs (omega (arith, c.requires.within)) in omega (arith, z));
      whole = none_whole c.args.head.version 0 (let z : 0 ≡ 0 = omega arith in z);
      joint = none_joint c.args.head.version rest;
      count = λ le. c.requires.none;
      seen = λ le. c.requires.seen;
    }
