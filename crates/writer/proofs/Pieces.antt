-- Bytes that are put one behind another.
use Rattle.std.proofs.Common.{◌≡◌, ℕ, ◌+◌, ◌*◌, List, [], ◌∷◌, ◌++◌, map, length, sym, refl, ap, ◌∙◌, arith}
use Rattle.std.specs.List.{flat_map}
use Rattle.draft.specs.Entry.{Entry}
use Rattle.records.specs.Bytes.{pair_bytes}
use Rattle.std.proofs.lemmas.Grind.{flat_map-append}
use Rattle.std.proofs.lemmas.List.{append-nil, append_assoc}
use Rattle.std.proofs.lemmas.List.Folds.{flat_map-map}

-- what is put behind what was put
pub behind : {X : Type 0} (old xs ys : List X) {mid end : List X} → mid ≡ old ++ xs → end ≡ mid ++ ys → end ≡ old ++ (xs ++ ys)
behind old xs ys a b = b ∙ ap (λ l. l ++ ys) a ∙ append_assoc old xs ys

-- lists made of the elements of lists
joined_joined : {X Y A : Type 0} (f : Y → List A) (h : X → List Y) (xs : List X) → flat_map (λ x. flat_map f (h x)) xs ≡ flat_map f (flat_map h xs)
joined_joined f h [] = refl
joined_joined f h (x ∷ xs) = ap (λ l. flat_map f (h x) ++ l) (joined_joined f h xs) ∙ sym (flat_map-append f (h x) (flat_map h xs))

module _ (f : Entry → List ℕ) (old : List ℕ) {mid : List ℕ} where
  -- one entry
  pub one_put : (e : Entry) → mid ≡ old ++ f e → mid ≡ old ++ flat_map f (e ∷ [])
  one_put e a = a ∙ ap (λ l. old ++ l) (sym (append-nil (f e)))

  -- an entry for each element
  pub rows_put : {X : Type 0} (g : X → Entry) (xs ys : List X) → mid ≡ old ++ flat_map (λ x. f (g x)) ys → ys ≡ xs → mid ≡ old ++ flat_map f (map g xs)
  rows_put g xs ys a s = a ∙ ap (λ l. old ++ l) (sym (flat_map-map f g ys) ∙ ap (λ l. flat_map f (map g l)) s)

  -- some entries for each element
  pub owners_put : {X Y : Type 0} (h : Y → List Entry) (g : X → Y) (xs ys : List X) → mid ≡ old ++ flat_map (λ x. flat_map f (h (g x))) ys → ys ≡ xs
      → mid ≡ old ++ flat_map f (flat_map h (map g xs))
  owners_put h g xs ys a s =
      a ∙ ap (λ l. old ++ l) (joined_joined f (λ x. h (g x)) ys ∙ ap (flat_map f) (sym (flat_map-map h g ys) ∙ ap (λ l. flat_map h (map g l)) s))

  -- entries behind entries
  pub entries_put : {end : List ℕ} (es fs : List Entry) → mid ≡ old ++ flat_map f es → end ≡ mid ++ flat_map f fs → end ≡ old ++ flat_map f (es ++ fs)
  entries_put es fs a b = behind old (flat_map f es) (flat_map f fs) a b ∙ ap (λ l. old ++ l) (sym (flat_map-append f es fs))

-- fields take two bytes each
pub length_fields : (fs tail : List ℕ) → length (flat_map pair_bytes fs ++ tail) ≡ length fs * 2 + length tail
length_fields [] tail = omega arith
length_fields (f ∷ fs) tail = omega (arith, length_fields fs tail)
