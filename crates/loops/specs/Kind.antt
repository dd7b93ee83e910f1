-- The kinds of links, by their numbers.
use Rattle.std.specs.Prelude.{◌≡◌, ℕ, ◌<◌, ◌⊎◌, Result, MatchResult}
use Rattle.loops.specs.declared.kind.Kind.{Kind}
use Rattle.loops.specs.declared.kind.Kind.TheVariants.{Wire, Path, Upper, Lower, Ceiling}
use Rattle.loops.specs.declared.kind.NoKind.{NoKind}

-- 01's column "words": a link of this kind begins with this number
abbrev pub number_of : Kind → ℕ
number_of Wire = 1
number_of Path = 2
number_of Upper = 3
number_of Lower = 4
number_of Ceiling = 5

-- the kind with this number, or none where no kind has it
abbrev pub Decodes : ℕ → Result Kind NoKind → Type 0
Decodes word r = MatchResult r (λ kind. number_of kind ≡ word) (λ _. (word < 1) ⊎ (5 < word))
