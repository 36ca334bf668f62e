-- What is left of a header's checks once its numbers are good.
use Rattle.std.proofs.Common.{◌≡◌, ℕ, ◌≤◌, ◌<◌, true, cond, ltb, List, [], length, take, drop, Result, Ok, Err, refl, ap, subst, ◌∙◌}
use Rattle.std.specs.Str.{bytes_eq}
use Rattle.std.proofs.lemmas.Bool.{le-ltb, lt-ltb, lt-leb}
use Rattle.spp_event.specs.declared.header.HeaderFault.{HeaderFault}
use Rattle.spp_event.specs.declared.header.HeaderFault.TheVariants.{Trailing}
use Rattle.spp_event.specs.Records.{word_at}
use Rattle.spp_event.specs.declared.version.Version.{Version}
use Rattle.spp_event.specs.Recordings.{Recording, records_of, room, filled}
use Rattle.spp_event.specs.Header.{magic, version_in}
use Rattle.spp_event.specs.Checks.{trace_by, ◌>>=◌, are_limits, funcs_at, sites_at, trace_at, Fails}
use Rattle.spp_event.proofs.NamesInTurn.{fails_too}

pub record Head (bytes : List ℕ) (f s r n : ℕ) : Type 0 where
  pub long : 24 ≤ length bytes
  pub magic : bytes_eq (take 8 bytes) (magic (version_in bytes)) ≡ true
  pub f_is : f ≡ word_at bytes 8
  pub s_is : s ≡ word_at bytes 12
  pub r_is : r ≡ word_at bytes 16
  pub n_is : n ≡ word_at bytes 20
  pub limits : are_limits f s n ≡ true
  pub root : r < f

abbrev Names : Type 0
Names = List (List ℕ) × List ℕ

abbrev pub last : Version → ℕ → ℕ → Names → Names → Result Recording HeaderFault
last v r n funcs sites = cond (ltb (room v n) (filled v sites.1)) (Err Trailing) (Ok (trace_by v r n funcs.0 sites.0 sites.1))

pub opens : (bytes : List ℕ) (f s r n : ℕ) → Head bytes f s r n → trace_at bytes ≡ (funcs_at f [] (drop 24 bytes) >>= λ funcs. sites_at s f [] funcs.1 >>= λ sites. last (version_in bytes) r n funcs sites)
unfolding trace_at
opens bytes f s r n h =
    let l : are_limits (word_at bytes 8) (word_at bytes 12) (word_at bytes 20) ≡ true = subst (λ (k : ℕ). are_limits (word_at bytes 8) (word_at bytes 12) k ≡ true) h.n_is (subst (λ (k : ℕ). are_limits (word_at bytes 8) k n ≡ true) h.s_is (subst (λ (k : ℕ). are_limits k s n ≡ true) h.f_is h.limits)) in
    let t : word_at bytes 16 < word_at bytes 8 = subst (λ (k : ℕ). k < word_at bytes 8) h.r_is (subst (λ (k : ℕ). r < k) h.f_is h.root) in
    rw (le-ltb (length bytes) 24 h.long, h.magic, l, lt-leb (word_at bytes 8) (word_at bytes 16) t, h.f_is, h.s_is, h.r_is, h.n_is) refl

pub funcs_fail : (bytes : List ℕ) (f s r n : ℕ) (e : HeaderFault) → Head bytes f s r n → Fails e (funcs_at f [] (drop 24 bytes)) → Fails e (trace_at bytes)
funcs_fail bytes f s r n e h g = fails_too e (trace_at bytes) (funcs_at f [] (drop 24 bytes)) (λ d p. opens bytes f s r n h ∙ ap (λ (x : Result Names HeaderFault). x >>= λ funcs. sites_at s f [] funcs.1 >>= λ sites. last (version_in bytes) r n funcs sites) p) g

pub sites_follow : (bytes : List ℕ) (f s r n : ℕ) (funcs : Names) → Head bytes f s r n → funcs_at f [] (drop 24 bytes) ≡ Ok funcs → trace_at bytes ≡ (sites_at s f [] funcs.1 >>= λ sites. last (version_in bytes) r n funcs sites)
sites_follow bytes f s r n funcs h p = opens bytes f s r n h ∙ ap (λ (x : Result Names HeaderFault). x >>= λ funcs. sites_at s f [] funcs.1 >>= λ sites. last (version_in bytes) r n funcs sites) p

pub sites_fail : (bytes : List ℕ) (f s r n : ℕ) (funcs : Names) (e : HeaderFault) → Head bytes f s r n → funcs_at f [] (drop 24 bytes) ≡ Ok funcs → Fails e (sites_at s f [] funcs.1) → Fails e (trace_at bytes)
sites_fail bytes f s r n funcs e h p g = fails_too e (trace_at bytes) (sites_at s f [] funcs.1) (λ d q. sites_follow bytes f s r n funcs h p ∙ ap (λ (x : Result Names HeaderFault). x >>= λ sites. last (version_in bytes) r n funcs sites) q) g

pub lasts : (bytes : List ℕ) (f s r n : ℕ) (funcs sites : Names) → Head bytes f s r n → funcs_at f [] (drop 24 bytes) ≡ Ok funcs → sites_at s f [] funcs.1 ≡ Ok sites → trace_at bytes ≡ last (version_in bytes) r n funcs sites
lasts bytes f s r n funcs sites h p q = sites_follow bytes f s r n funcs h p ∙ ap (λ (x : Result Names HeaderFault). x >>= λ sites. last (version_in bytes) r n funcs sites) q

pub trails : (bytes : List ℕ) (f s r n : ℕ) (funcs sites : Names) → Head bytes f s r n → funcs_at f [] (drop 24 bytes) ≡ Ok funcs → sites_at s f [] funcs.1 ≡ Ok sites → room (version_in bytes) n < filled (version_in bytes) sites.1 → trace_at bytes ≡ Err Trailing
trails bytes f s r n funcs sites h p q lt = lasts bytes f s r n funcs sites h p q ∙ rw (lt-ltb (room (version_in bytes) n) (filled (version_in bytes) sites.1) lt) refl

pub is_made : (bytes : List ℕ) (f s r n : ℕ) (funcs sites : Names) → Head bytes f s r n → funcs_at f [] (drop 24 bytes) ≡ Ok funcs → sites_at s f [] funcs.1 ≡ Ok sites → filled (version_in bytes) sites.1 ≤ room (version_in bytes) n → trace_at bytes ≡ Ok (trace_by (version_in bytes) r n funcs.0 sites.0 sites.1)
is_made bytes f s r n funcs sites h p q le = lasts bytes f s r n funcs sites h p q ∙ rw (le-ltb (room (version_in bytes) n) (filled (version_in bytes) sites.1) le) refl

-- that of so many sites and functions
abbrev pub trace_of : Version → ℕ → ℕ → ℕ → ℕ → Names → Names → Recording
trace_of v r k j n funcs sites = record { funcs = funcs.0; sites = sites.0; root = r; records = records_of v k j n sites.1; version = v; body = sites.1 }

pub is_made_of : (bytes : List ℕ) (f s r n k j : ℕ) (funcs sites : Names) → Head bytes f s r n → funcs_at f [] (drop 24 bytes) ≡ Ok funcs → sites_at s f [] funcs.1 ≡ Ok sites → filled (version_in bytes) sites.1 ≤ room (version_in bytes) n → length sites.0 ≡ k → length funcs.0 ≡ j → trace_at bytes ≡ Ok (trace_of (version_in bytes) r k j n funcs sites)
is_made_of bytes f s r n k j funcs sites h p q le a b =
    subst (λ (y : ℕ). trace_at bytes ≡ Ok (trace_of (version_in bytes) r k y n funcs sites)) b
    (subst (λ (x : ℕ). trace_at bytes ≡ Ok (trace_of (version_in bytes) r x (length funcs.0) n funcs sites)) a (is_made bytes f s r n funcs sites h p q le))
