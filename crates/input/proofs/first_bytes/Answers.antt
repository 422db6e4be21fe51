use Rattle.std.proofs.Common.{◌≡◌, ℕ, List, [], ◌++◌, Some, None, Option, take, ap, ◌∙◌, subst}
use Rattle.std.specs.Option.{IfSome, option_map}
use Rattle.input.proofs.first_bytes.Goals as goal

-- what is read behind nothing, of at most n bytes
fronts : (o : Option (List ℕ)) (n m : ℕ) (old ys : List ℕ) → n ≡ m → old ≡ [] → IfSome (option_map (take n) o) (λ xs. ys ≡ old ++ xs) → IfSome o (λ xs. ys ≡ take m xs)
fronts None n m old ys e f h = h
fronts (Some xs) n m old ys e f h = h ∙ ap (λ l. l ++ take n xs) f ∙ ap (λ (k : ℕ). take k xs) e

pub returns : goal.returns
returns g c =
    let r = g.R.Read.remaining in
    let ys = c.read_to_end.new.buf.items in
    let at_first = fronts (r c.take-first.result.inner) _ 60000 _ ys c.take-first.ensures.limit c.new-bytes.ensures.items c.in_ok-read_to_end.ensures.bytes in
    subst (λ x. IfSome (r x) (λ xs. ys ≡ take 60000 xs)) c.take-first.ensures.inner at_first
