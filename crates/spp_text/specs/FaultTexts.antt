-- The texts of faults, as a line of fault tells them.
use Rattle.std.specs.Prelude.{ℕ, List, codes}
use Rattle.spp_text.specs.declared.fault.TextWhy.{TextWhy}
use Rattle.spp_text.specs.declared.fault.TextWhy.TheVariants.{Word, Count, Number, Name, SameName, Limits, Late, Root, NoFunc, Site, Func, Memory}

abbrev pub text_why_text : TextWhy → List ℕ
text_why_text Word = codes "word"
text_why_text Count = codes "count"
text_why_text Number = codes "number"
text_why_text Name = codes "name"
text_why_text SameName = codes "same name"
text_why_text Limits = codes "limits"
text_why_text Late = codes "late"
text_why_text Root = codes "root"
text_why_text NoFunc = codes "no function"
text_why_text Site = codes "site"
text_why_text Func = codes "function"
text_why_text Memory = codes "out of memory"
