use Rattle.std.proofs.Common.{◌≡◌, ℕ, ◌+◌, ◌*◌, ◌++◌, length, take, vec_items, sym, refl, ap, ◌∙◌, rules}
use Rattle.std.specs.Result.{OnOk}
use Rattle.std.specs.List.{flat_map}
use Rattle.std.proofs.lemmas.Result.{IfOk-equal}
use Rattle.records.specs.Bytes.{pair_bytes}
use Rattle.draft.specs.Kinds.{code}
use Rattle.writer.proofs.Pieces.{behind, length_fields}
use Rattle.writer.proofs.put.put_record.Goals as goal

pub returns : goal.returns
returns c =
    let old = vec_items c.args.out.now in
    let fs = c.args.fields.now in
    let tail = c.args.tail.now in
    let size = 2 + (length fs * 2 + length tail) in
    let low : take 2 c.to_le_bytes.result ≡ pair_bytes size = search rules in
    let a : vec_items c.extend_from_slice.new.self ≡ old ++ pair_bytes (2 + length (flat_map pair_bytes fs ++ tail)) =
    c.in_ok-extend_from_slice.ensures.items ∙ ap (λ l. old ++ l) (low ∙ ap (λ (n : ℕ). pair_bytes (2 + n)) (sym (length_fields fs tail))) in
    let b : vec_items c.put.new.out ≡ vec_items c.extend_from_slice.new.self ++ pair_bytes (code c.args.kind) =
    c.in_ok-put.ensures ∙ ap (λ (n : ℕ). vec_items c.extend_from_slice.new.self ++ pair_bytes n) c.from.ensures in
    let last : OnOk c.extend_from_slice-2.result (vec_items c.extend_from_slice-2.new.self ≡ vec_items c.put_all.new.out ++ tail) = search rules in
    let d : vec_items c.put_all.new.out ++ tail ≡ vec_items c.put.new.out ++ (flat_map pair_bytes fs ++ tail) =
    behind (vec_items c.put.new.out) (flat_map pair_bytes fs) tail c.in_ok-put_all.ensures refl in
    IfOk-equal c.extend_from_slice-2.result _ _ _ last
    (behind old (pair_bytes (2 + length (flat_map pair_bytes fs ++ tail))) (pair_bytes (code c.args.kind) ++ (flat_map pair_bytes fs ++ tail)) a
    (behind (vec_items c.extend_from_slice.new.self) (pair_bytes (code c.args.kind)) (flat_map pair_bytes fs ++ tail) b d))
