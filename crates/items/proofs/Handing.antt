-- The items that a reader hands out are the parcel up to its place.
use Rattle.std.proofs.Common.{◌≡◌, ℕ, ◌+◌, ◌-◌, ◌<◌, ◌≤◌, Bool, true, false, cond, leb, List, [], ◌∷◌, ◌++◌, length, take, drop, Some, None, Ok, Err, Result, sym, refl, ap, ◌∙◌, arith}
use Rattle.std.specs.List.{flat_map}
use Rattle.std.proofs.lemmas.List.{flat_map_more}
use Rattle.std.proofs.Math.Seq.{take-add}
use Rattle.std.proofs.lemmas.Bool.{leb-true}
use Rattle.account.specs.declared.refusal.Refusal.{Refusal}
use Rattle.account.specs.declared.refusal.Refusal.TheVariants.{CutShort, Malformed}
use Rattle.items.specs.Items.{most_bytes, kind_of, kind_at, length_at, whole_body, body_at}
use Rattle.numbers.specs.Numbers.{number_at, front_number}
use Rattle.items.specs.Parcels.{item_at, stands_at, Shown, handed, next_item, next_place, none, next, ItemsAreTheParcel}
use Rattle.items.specs.declared.item.Body.{Body}
use Rattle.items.specs.declared.item.Kind.{Kind}
use Rattle.items.proofs.KindCodec.{kind_named}
use Rattle.numbers.proofs.Codecs.{placed_inv}
use Rattle.numbers.proofs.Numbers.{number-used}
use Rattle.numbers.proofs.Stands.{then_inv, ok_same, passed, never}

-- a number ends behind its place
number-after : (bs : List ℕ) (p : ℕ) (g : ℕ × ℕ) → number_at bs p ≡ Ok g → p < g.1
number-after bs p g h =
    let r = placed_inv p (front_number (drop p bs)) g.0 g.1 h in
    omega (arith, r.2, (number-used (drop p bs) (g.0, r.0) r.1).0)

-- a whole body ends behind the place of its length and within the bytes
body-within : (bs : List ℕ) (kind : Kind) (p : ℕ) (b : Body) → body_at bs kind p ≡ Ok b → (p < b.end) × (b.end ≤ length bs)
body-within bs kind p b h =
    let l = then_inv (length_at kind bs p) (whole_body bs) b h in
    let r = then_inv (number_at bs p) _ l.0 l.1 in
    let small = passed (leb r.0.0 (most_bytes kind)) r.0 l.0 (Malformed p) r.2 in
    let whole = passed (leb (l.0.1 + l.0.0) (length bs)) (record { from = l.0.1; end = l.0.1 + l.0.0 }) b (CutShort (length bs)) l.2 in
    let end : l.0.1 + l.0.0 ≡ b.end = ap (λ (x : Body). x.end) whole.1 in
    let next : r.0.1 ≡ l.0.1 = ap (λ (x : ℕ × ℕ). x.1) small.1 in
    (omega (arith, number-after bs p r.0 r.1), omega (arith, leb-true _ _ whole.0))

-- an item that is accepted ends behind its place and within the parcel
item-within : (bs : List ℕ) (p : ℕ) (i : Kind × ℕ) → item_at bs p ≡ Ok i → (p < i.1) × (i.1 ≤ length bs)
item-within bs p i h =
    let k = then_inv (kind_at bs p) _ i h in
    let g = then_inv (number_at bs p) (kind_of p) k.0 k.1 in
    let b = then_inv (body_at bs k.0.0 k.0.1) _ i k.2 in
    let within = body-within bs k.0.0 k.0.1 b.0 b.1 in
    let end : b.0.end ≡ i.1 = ap (λ (x : Kind × ℕ). x.1) (ok_same _ _ b.2) in
    let next : g.0.1 ≡ k.0.1 = (kind_named p g.0 k.0 g.2).1 in
    (omega (arith, number-after bs p g.0 g.1, within.0), omega (arith, within.1))

-- the front of a list, and what follows it
front_more : (bs : List ℕ) (p q : ℕ) → p ≤ q → take p bs ++ take (q - p) (drop p bs) ≡ take q bs
front_more bs p q h =
    let whole : p + (q - p) ≡ q = omega arith in
    sym (take-add p (q - p) bs) ∙ ap (λ (n : ℕ). take n bs) whole

-- what an item that was handed out is
abbrev pub Took : List ℕ → ℕ → Shown → ℕ → Type 0
Took bs p i q = (p < q) × (q ≤ length bs) × (i.bytes ≡ take (q - p) (drop p bs))

handed_is : (bs : List ℕ) (p : ℕ) (i : Shown) (r : Result (Kind × ℕ) Refusal) → item_at bs p ≡ r → handed bs p r ≡ Ok (Some i) → Took bs p i (stands_at p r)
handed_is bs p i (Ok k) e h =
    let same : record { place = p; kind = k.0; bytes = take (k.1 - p) (drop p bs) } ≡ i = cc in
    let within = item-within bs p k e in
    (within.0, within.1, sym (ap (λ (x : Shown). x.bytes) same))
handed_is bs p i (Err f) e h = absurd (never (Some i) f h)

pub next_is : (bs : List ℕ) (p : ℕ) (i : Shown) → next_item bs p ≡ Ok (Some i) → Took bs p i (next_place bs p)
next_is bs p i h = by_end (leb (length bs) p) h
  where
    by_end : (b : Bool) → cond b (Ok None) (handed bs p (item_at bs p)) ≡ Ok (Some i) → Took bs p i (cond b p (stands_at p (item_at bs p)))
    by_end true e = cc
    by_end false e = handed_is bs p i (item_at bs p) refl e

handed_more : (parcel : List ℕ) (items : List (List ℕ)) (p q : ℕ) (i : Shown) → flat_map (λ item. item) items ≡ take p parcel → Took parcel p i q → flat_map (λ item. item) (items ++ i.bytes ∷ []) ≡ take q parcel
handed_more parcel items p q i before took =
    sym (flat_map_more (λ item. item) [] items i.bytes) ∙ ap (λ (x : List ℕ). x ++ i.bytes) before ∙ ap (λ (x : List ℕ). take p parcel ++ x) took.2 ∙ front_more parcel p q (omega (arith, took.0))

pub items_are_the_parcel : ItemsAreTheParcel
items_are_the_parcel parcel items p (none) = refl
items_are_the_parcel parcel items p (next {items = before} {p = place} i hands here) =
    handed_more parcel before place (next_place parcel place) i (items_are_the_parcel parcel before place hands) (next_is parcel place i here)
