-- A list of owners whose last one is changed in place.
use Rattle.std.proofs.Common.{◌≡◌, ℕ, ◌-◌, ◌<◌, Bool, true, false, cond, List, map, length, get_or, set, sym, ap, ◌∙◌, subst, arith}
use Rattle.std.proofs.Math.Seq.{map-set_same}
use Rattle.std.proofs.lemmas.List.{map-set, get_or-map, length-map}
use Rattle.draft.specs.Entered.{on_last}
use Rattle.draft.proofs.Grown.{on_last_set}

module _ {X Y : Type 0} (f : X → Y) (g : Y → Y) (xs : List X) (n : ℕ) (x w : X) (size : n ≡ length xs) (some : 0 < n) (is : x ≡ get_or xs (n - 1) x) where
  -- what stands last, seen by f
  seen_last : get_or (map f xs) (n - 1) (f x) ≡ f x
  seen_last = get_or-map f xs (n - 1) x (f x) (omega arith) ∙ ap f (sym is)

  changed : f w ≡ g (f x) → map f (set xs (n - 1) w) ≡ on_last g (map f xs)
  changed e =
      let l : n ≡ length (map f xs) = size ∙ sym (length-map xs f) in
      let p : 0 < length (map f xs) = omega arith in
      let q : on_last g (map f xs) ≡ set (map f xs) (n - 1) (g (get_or (map f xs) (n - 1) (f x))) =
      subst (λ (m : ℕ). on_last g (map f xs) ≡ set (map f xs) (m - 1) (g (get_or (map f xs) (m - 1) (f x)))) (sym l) (on_last_set g (map f xs) (f x) p) in
      map-set f xs (n - 1) w ∙ ap (set (map f xs) (n - 1)) (e ∙ ap g (sym seen_last)) ∙ sym q

  same : f w ≡ f x → map f (set xs (n - 1) w) ≡ map f xs
  same e = map-set_same f xs (n - 1) w x (e ∙ ap f is)

  -- the last one is changed only if b
  pub last_changed : (b : Bool) → f w ≡ cond b (g (f x)) (f x) → map f (set xs (n - 1) w) ≡ cond b (on_last g (map f xs)) (map f xs)
  last_changed true e = changed e
  last_changed false e = same e
