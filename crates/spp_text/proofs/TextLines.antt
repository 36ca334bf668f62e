-- What a text says is what its lines say, each by itself.
use Rattle.std.proofs.Common.{◌≡◌, ℕ, suc, Option, Some, None, List, [], ◌∷◌, ◌++◌, Result, Ok, Err, refl, sym, ap, ◌∙◌, append_assoc, append-nil}
use Rattle.std.specs.Prelude.{option_to_list, filter_map}
use Rattle.std.specs.List.{cons_option}
use Rattle.std.specs.Str.Lines.{lines}
use Rattle.spp_text.specs.declared.fault.TextWhy.{TextWhy}
use Rattle.spp_text.specs.Reading.{Said, nothing, read_line, at_end, go_on, read_lines, opening_fault}
use Rattle.spp_text.specs.LineKinds.{func_on, site_on, root_on, event_on}
use Rattle.spp_text.specs.Laws.{TextIsItsLines}
use Rattle.spp_text.proofs.LineAdds.{line_adds}

-- what is said then is what was said before, and what these lines say
record AllAdd (s : Said) (ls : List (List ℕ)) (t : Said) : Type 0 where
  pub funcs : t.funcs ≡ s.funcs ++ filter_map func_on ls
  pub sites : t.sites ≡ s.sites ++ filter_map site_on ls
  pub root : option_to_list t.root ≡ option_to_list s.root ++ filter_map root_on ls
  pub events : t.events ≡ s.events ++ filter_map event_on ls

-- what one line adds, and then more
one_more : {X : Type 0} (xs ys zs : List X) (o : Option X) (more : List X) → ys ≡ xs ++ option_to_list o → zs ≡ ys ++ more → zs ≡ xs ++ cons_option o more
one_more xs ys zs None more e h = h ∙ ap (λ (l : List _). l ++ more) (e ∙ append-nil xs)
one_more xs ys zs (Some x) more e h = h ∙ ap (λ (l : List _). l ++ more) e ∙ append_assoc xs (x ∷ []) more

-- lines that are read without a fault add what they say
all_add : (ls : List (List ℕ)) (s t : Said) (number : ℕ) → read_lines s number ls ≡ Ok t → AllAdd s ls t
all_add [] s t number h = by_missing (opening_fault s) h
  where
    by_missing : (missing : Option TextWhy) → at_end s number missing ≡ Ok t → AllAdd s [] t
    by_missing (Some why) h = absurd cc
    by_missing None h =
        let same : t ≡ s = cc in
        record {
          funcs = ap (λ (u : Said). u.funcs) same ∙ sym (append-nil s.funcs);
          sites = ap (λ (u : Said). u.sites) same ∙ sym (append-nil s.sites);
          root = ap (λ (u : Said). option_to_list u.root) same ∙ sym (append-nil (option_to_list s.root));
          events = ap (λ (u : Said). u.events) same ∙ sym (append-nil s.events);
        }
all_add (l ∷ ls) s t number h = by_line (read_line s l) refl (λ u. all_add ls u t (suc number)) h
  where
    by_line : (r : Result Said TextWhy) → read_line s l ≡ r → ((u : Said) → read_lines u (suc number) ls ≡ Ok t → AllAdd u ls t) → go_on number r (λ u. read_lines u (suc number) ls) ≡ Ok t → AllAdd s (l ∷ ls) t
    by_line (Err why) e more h = absurd cc
    by_line (Ok u) e more h =
        let first = line_adds s u l e in
        let then = more u h in
        record {
          funcs = one_more s.funcs u.funcs t.funcs (func_on l) (filter_map func_on ls) first.funcs then.funcs;
          sites = one_more s.sites u.sites t.sites (site_on l) (filter_map site_on ls) first.sites then.sites;
          root = one_more (option_to_list s.root) (option_to_list u.root) (option_to_list t.root) (root_on l) (filter_map root_on ls) first.root then.root;
          events = one_more s.events u.events t.events (event_on l) (filter_map event_on ls) first.events then.events;
        }

pub text_is_its_lines : TextIsItsLines
text_is_its_lines text s h = let a = all_add (lines text) nothing s 1 h in (a.funcs, a.sites, a.root, a.events)
