-- A parcel is items end to end. Its reader hands out one after another, having read kind and length only.
use Rattle.std.specs.Prelude.{◌≡◌, ℕ, ◌-◌, cond, List, [], ◌∷◌, ◌++◌, length, take, drop, Some, None, Ok, Err, Option, Result, ◌==◌, nat_le}
use Rattle.std.specs.Borrow.{Bor}
use Rattle.std.specs.List.{flat_map}
use Rattle.account.specs.declared.refusal.Refusal.{Refusal}
use Rattle.account.specs.declared.refusal.Refusal.TheVariants.{Malformed, OtherKind}
use Rattle.items.specs.Items.{kind_at, body_at}
use Rattle.numbers.specs.Reading.{Reading, and_then}
use Rattle.items.specs.declared.item.Body.{Body}
use Rattle.items.specs.declared.item.Kind.{Kind}
use Rattle.items.specs.declared.item.Kind.TheVariants as kinds
use Rattle.items.specs.declared.parcel.Handed.{Handed}
use Rattle.items.specs.declared.parcel.Item.{Item}
use Rattle.items.specs.declared.parcel.Item.TheVariants.{Account, Remark}

-- the kind of the item at a place, and the place after the item
abbrev pub item_at : Reading Kind
item_at bs p = and_then (kind_at bs p) (λ k. and_then (body_at bs k.0 k.1) (λ b. Ok (k.0, b.end)))

abbrev pub kind_in : Result (Kind × ℕ) Refusal → Result Kind Refusal
kind_in (Ok i) = Ok i.0
kind_in (Err e) = Err e

-- where the reader stands then: behind the item, or on its first byte where it is refused
abbrev pub stands_at : ℕ → Result (Kind × ℕ) Refusal → ℕ
stands_at p (Ok i) = i.1
stands_at p (Err e) = p

-- what is handed out: the item's place, its kind and all its bytes
pub record Shown : Type 0 where
  pub place : ℕ
  pub kind : Kind
  pub bytes : List ℕ

abbrev pub kind_and_bytes : Item → Kind × List ℕ
kind_and_bytes (Account part) = (kinds.Account, part.now)
kind_and_bytes (Remark part) = (kinds.Remark, part.now)

abbrev pub seen : Handed → Shown
seen h = record { place = h.place; kind = (kind_and_bytes h.item).0; bytes = (kind_and_bytes h.item).1 }

abbrev pub shown : Result (Option Handed) Refusal → Result (Option Shown) Refusal
shown (Ok None) = Ok None
shown (Ok (Some h)) = Ok (Some (seen h))
shown (Err e) = Err e

abbrev pub handed : List ℕ → ℕ → Result (Kind × ℕ) Refusal → Result (Option Shown) Refusal
handed bs p (Ok i) = Ok (Some (record { place = p; kind = i.0; bytes = take (i.1 - p) (drop p bs) }))
handed bs p (Err e) = Err e

-- the next item, none at the end
abbrev pub next_item : List ℕ → ℕ → Result (Option Shown) Refusal
next_item bs p = cond (nat_le (length bs) p) (Ok None) (handed bs p (item_at bs p))

abbrev pub next_place : List ℕ → ℕ → ℕ
next_place bs p = cond (nat_le (length bs) p) p (stands_at p (item_at bs p))

-- REMARKS

-- a remark is asked for
abbrev pub of_remark : ℕ → Kind × ℕ → Result ℕ Refusal
of_remark p k = elim k.0 [ kinds.Account ↦ Err (OtherKind p) | kinds.Remark ↦ Ok k.1 ]

-- the text of the one remark item that the bytes are
abbrev pub text_in : List ℕ → Body → Result (List ℕ) Refusal
text_in bs b = cond (b.end == length bs) (Ok (drop b.from bs)) (Err (Malformed b.end))

abbrev pub only_remark : List ℕ → Result (List ℕ) Refusal
only_remark bs = and_then (kind_at bs 0) (λ k. and_then (of_remark 0 k) (λ q. and_then (body_at bs kinds.Remark q) (text_in bs)))

-- the text that an answer refers to
abbrev pub text_of : Result (Bor (List ℕ)) Refusal → Result (List ℕ) Refusal
text_of (Ok text) = Ok text.now
text_of (Err e) = Err e

-- THE LAW OF A READER

-- the items handed out so far, oldest first, and where the reader then stands
pub data HandsOut (parcel : List ℕ) : List (List ℕ) → ℕ → Type 0 where
  none : HandsOut parcel [] 0
  next : {items : List (List ℕ)} {p : ℕ} (i : Shown) → HandsOut parcel items p → next_item parcel p ≡ Ok (Some i) → HandsOut parcel (items ++ i.bytes ∷ []) (next_place parcel p)

-- end to end they are the parcel from its start to the reader's place
abbrev pub ItemsAreTheParcel : Type 0
ItemsAreTheParcel = (parcel : List ℕ) (items : List (List ℕ)) (p : ℕ) → HandsOut parcel items p → flat_map (λ item. item) items ≡ take p parcel
