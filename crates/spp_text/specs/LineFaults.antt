-- What is wrong with a line, told by what the line is: for each kind of line and each fault, when the line has that
-- fault, all checks before that one being good. s is what the lines before it have said. Reading answers the same by
-- going through the checks; that it does is a law.
use Rattle.std.specs.Prelude.{◌≡◌, ◌≢◌, ◌⊎◌, ℕ, ◌≤◌, ◌<◌, ◌^◌, true, false, List, [], ◌∷◌, ◌++◌, length, map, codes, Contains, Option, None, Some, unwrap_or}
use Rattle.spp_event.specs.declared.records.Event.{Event}
use Rattle.spp_event.specs.declared.records.Event.TheVariants.{Strand, Call, Spawn, Ret, Sync}
use Rattle.spp_event.specs.Records.{names_site, names_func}
use Rattle.spp_event.specs.Header.{IsName, root_name}
use Rattle.spp_text.specs.declared.fault.TextWhy.{TextWhy}
use Rattle.spp_text.specs.declared.fault.TextWhy.TheVariants.{Word, Count, Number, Name, SameName, Limits, Late, Root, NoFunc, Site, Func}
use Rattle.spp_text.specs.Reading.{Said, words, number_in}
use Rattle.spp_text.specs.LineKinds.{is_in_words}

-- ---- what has been said

abbrev pub HasEvent : Said → Type 0
HasEvent s = s.events ≢ []

abbrev pub HasNoEvent : Said → Type 0
HasNoEvent s = s.events ≡ []

-- what must be said before the first event, or before the end of a text without events, has been said: a function, and
-- a root function that is one of the functions, which is the first where none was named
abbrev pub IsOpened : Said → Type 0
IsOpened s = HasEvent s ⊎ (unwrap_or s.root 0 < length s.funcs)

-- what of that is missing
abbrev pub IsOpeningFault : Said → TextWhy → Type 0
IsOpeningFault s NoFunc = HasNoEvent s × (s.funcs ≡ [])
IsOpeningFault s Root = HasNoEvent s × (s.funcs ≢ []) × (length s.funcs ≤ unwrap_or s.root 0)
IsOpeningFault s _ = ⊥

-- ---- what a line is

-- the line declares no name and is no comment, and these are its words
abbrev pub HasWords : List ℕ → List (List ℕ) → Type 0
HasWords line ws = (is_in_words line ≡ true) × (words line ≡ ws)

-- the numbers that the words are in decimal; None stands for a word that is no number, or one greater than `most`
abbrev pub numbers : ℕ → List (List ℕ) → List (Option ℕ)
numbers most ws = map (number_in most) ws

-- the word is the first of an event, on whose line that many numbers follow it, none greater than `most`
abbrev pub IsEventWord : List ℕ → ℕ → ℕ → Type 0
IsEventWord word count most = ((word ≡ codes "strand") × (count ≡ 1) × (most ≡ 18446744073709551615))
    ⊎ ((word ≡ codes "call") × (count ≡ 2) × (most ≡ 4294967295))
    ⊎ ((word ≡ codes "spawn") × (count ≡ 2) × (most ≡ 4294967295))
    ⊎ ((word ≡ codes "return") × (count ≡ 0) × (most ≡ 0))
    ⊎ ((word ≡ codes "sync") × (count ≡ 0) × (most ≡ 0))

-- the event is said by this first word and the others behind it
abbrev pub AreWordsOf : Event → List ℕ → List (List ℕ) → Type 0
AreWordsOf (Strand count) word others = (word ≡ codes "strand") × (numbers 18446744073709551615 others ≡ Some count ∷ [])
AreWordsOf (Call site func) word others = (word ≡ codes "call") × (numbers 4294967295 others ≡ Some site ∷ Some func ∷ [])
AreWordsOf (Spawn site func) word others = (word ≡ codes "spawn") × (numbers 4294967295 others ≡ Some site ∷ Some func ∷ [])
AreWordsOf Ret word others = (word ≡ codes "return") × (others ≡ [])
AreWordsOf Sync word others = (word ≡ codes "sync") × (others ≡ [])

-- ---- what is wrong first

-- with a line that declares a function of that name
abbrev pub IsFuncFault : Said → List ℕ → TextWhy → Type 0
IsFuncFault s name Late = HasEvent s
IsFuncFault s name Limits = HasNoEvent s × (65536 ≤ length s.funcs)
IsFuncFault s name Name = HasNoEvent s × (length s.funcs < 65536) × ¬ IsName name
IsFuncFault s name _ = ⊥

-- with a line that declares a site of that name
abbrev pub IsSiteFault : Said → List ℕ → TextWhy → Type 0
IsSiteFault s name Late = HasEvent s
IsSiteFault s name Limits = HasNoEvent s × (65536 ≤ length s.sites)
IsSiteFault s name Name = HasNoEvent s × (length s.sites < 65536) × ¬ IsName name
IsSiteFault s name SameName =
    HasNoEvent s × (length s.sites < 65536) × IsName name × ((name ≡ root_name) ⊎ Contains s.sites name)
IsSiteFault s name _ = ⊥

-- with a line that declares the root function by these words behind its first
abbrev pub IsRootFault : Said → List (List ℕ) → TextWhy → Type 0
IsRootFault s others Count = length others ≢ 1
IsRootFault s others Number = numbers 4294967295 others ≡ None ∷ []
IsRootFault s others Late = (n : ℕ) × (numbers 4294967295 others ≡ Some n ∷ []) × HasEvent s
IsRootFault s others Root = (n : ℕ) × (numbers 4294967295 others ≡ Some n ∷ []) × HasNoEvent s × (s.root ≢ None)
IsRootFault s others _ = ⊥

-- with another line, of this first word and these behind it: the word is the first of no event; or something is missing
-- before the first event; or too few or too many words follow, or one of them is no number; or there are too many
-- events, or the event names a site or a function that isn't there
abbrev pub IsEventFault : Said → List ℕ → List (List ℕ) → TextWhy → Type 0
IsEventFault s word others Word = (count most : ℕ) → IsEventWord word count most → ⊥
IsEventFault s word others NoFunc = (count : ℕ) × (most : ℕ) × IsEventWord word count most × IsOpeningFault s NoFunc
IsEventFault s word others Root = (count : ℕ) × (most : ℕ) × IsEventWord word count most × IsOpeningFault s Root
IsEventFault s word others Count =
    (count : ℕ) × (most : ℕ) × IsEventWord word count most × IsOpened s × (length others ≢ count)
IsEventFault s word others Number =
    (count : ℕ) × (most : ℕ) × IsEventWord word count most × IsOpened s
    × (length others ≡ count) × Contains (numbers most others) None
IsEventFault s word others Limits = (e : Event) × AreWordsOf e word others × IsOpened s × (2 ^ 28 ≤ length s.events)
IsEventFault s word others Site =
    (e : Event) × AreWordsOf e word others × IsOpened s × (length s.events < 2 ^ 28)
    × (names_site (length s.sites) e ≡ false)
IsEventFault s word others Func =
    (e : Event) × AreWordsOf e word others × IsOpened s × (length s.events < 2 ^ 28)
    × (names_site (length s.sites) e ≡ true) × (names_func (length s.funcs) e ≡ false)
IsEventFault s word others _ = ⊥

-- The fault that this line has first, where s has been said.
abbrev pub IsLineFault : Said → List ℕ → TextWhy → Type 0
IsLineFault s line why = ((name : List ℕ) × (line ≡ codes "func " ++ name) × IsFuncFault s name why)
    ⊎ ((name : List ℕ) × (line ≡ codes "site " ++ name) × IsSiteFault s name why)
    ⊎ ((others : List (List ℕ)) × HasWords line (codes "root" ∷ others) × IsRootFault s others why)
    ⊎ ((word : List ℕ) × (others : List (List ℕ)) × HasWords line (word ∷ others) × (word ≢ codes "root") × IsEventFault s word others why)
