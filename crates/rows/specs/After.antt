-- Lists of which each element may stand after those before it.
use Rattle.std.specs.Prelude.{Bool, true, ◌&&◌, List, [], ◌∷◌, ◌++◌}

-- `may before x` says whether x may stand after the list `before`
abbrev pub each_after : {X : Type 0} → (List X → X → Bool) → List X → List X → Bool
each_after may before [] = true
each_after may before (x ∷ xs) = may before x && each_after may (before ++ x ∷ []) xs
