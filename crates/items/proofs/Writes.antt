-- What the writers of items answer and leave.
use Rattle.std.proofs.Common.{◌≡◌, ℕ, ◌+◌, ◌-◌, ◌<◌, ◌≤◌, Bool, true, false, not, List, [], ◌∷◌, ◌++◌, length, Ok, Err, Result, sym, refl, ap, ◌∙◌, subst, arith}
use Rattle.std.specs.List.{flat_map}
use Rattle.std.proofs.lemmas.List.{append_assoc, append-nil, length-append}
use Rattle.std.proofs.lemmas.Bool.{le-ltb, lt-ltb, not_from_true}
use Rattle.account.specs.declared.account.Account.{Account}
use Rattle.account.specs.declared.tally.Tally.{Tally}
use Rattle.account.specs.declared.refusal.Refusal.{Refusal}
use Rattle.account.specs.declared.refusal.Refusal.TheVariants.{NoRoom}
use Rattle.account.specs.Parts.{part_ok}
use Rattle.items.specs.AccountItems.{row_bytes, body_bytes, account_bytes}
use Rattle.items.specs.Items.{item_bytes, number_of}
use Rattle.numbers.specs.Numbers.{number_bytes}
use Rattle.items.specs.Writing.{put, write_answer, write_left, item_of, too_long}
use Rattle.items.specs.declared.item.AccountItem.{AccountItem}
use Rattle.items.specs.declared.item.Kind.{Kind}
use Rattle.items.specs.declared.item.Kind.TheVariants as kinds
use Rattle.items.proofs.Puts.{put_next}

-- a writer that answers r and leaves ys of the buffer xs
pub record Writes (wrong : Bool) (xs : List ℕ) (p : ℕ) (item : List ℕ) (r : Result ℕ Refusal) (ys : List ℕ) : Type 0 where
  pub answer : r ≡ write_answer wrong xs p item
  pub bytes : ys ≡ write_left wrong xs p item

module _ (wrong : Bool) (xs : List ℕ) (p : ℕ) (item : List ℕ) (right : wrong ≡ false) (inside : p ≤ length xs) where
  pub writes_full : length xs < p + length item → Writes wrong xs p item (Err NoRoom) xs
  writes_full h =
      let a = le-ltb (length xs) p inside in
      let b = lt-ltb (length xs) (p + length item) h in
      record { answer = rw (right, a, b) refl; bytes = rw (right, a, b) refl }

  pub writes_whole : (n : ℕ) (ys : List ℕ) → p + length item ≤ length xs → n ≡ length item → ys ≡ put xs p item → Writes wrong xs p item (Ok n) ys
  writes_whole n ys h len left =
      let a = le-ltb (length xs) p inside in
      let b = le-ltb (length xs) (p + length item) h in
      record { answer = rw (right, a, b, len) refl; bytes = rw (right, a, b) left }

-- THE PARTS OF AN ITEM

-- kind and length, as they are written
abbrev pub head : Kind → ℕ → List ℕ
head kind len = flat_map number_bytes (number_of kind ∷ len ∷ [])

pub item_parts : (kind : Kind) (body : List ℕ) → item_bytes kind body ≡ head kind (length body) ++ body
item_parts kind body = sym (simp (append_assoc, append-nil))

abbrev pub front : AccountItem → List ℕ
front i = flat_map number_bytes (i.part ∷ i.tally.reserve ∷ [])

pub body_parts : (i : AccountItem) → body_bytes i ≡ front i ++ (flat_map row_bytes i.tally.rows ++ row_bytes i.tally.issued)
body_parts i = sym (simp (append_assoc, append-nil))

module _ (i : AccountItem) (n r u h : ℕ) (fronts : n ≡ length (front i)) (rows : r ≡ length (flat_map row_bytes i.tally.rows)) (issues : u ≡ length (row_bytes i.tally.issued)) where
  pub body-len : n + r + u ≡ length (body_bytes i)
  body-len =
      let a = length-append (front i) (flat_map row_bytes i.tally.rows ++ row_bytes i.tally.issued) in
      let b = length-append (flat_map row_bytes i.tally.rows) (row_bytes i.tally.issued) in
      omega (arith, ap length (body_parts i))

  module _ (heads : h ≡ length (head kinds.Account (n + r + u))) where
    account_parts : account_bytes i ≡ head kinds.Account (n + r + u) ++ body_bytes i
    unfolding account_bytes
    account_parts = item_parts kinds.Account (body_bytes i) ∙ ap (λ (k : ℕ). head kinds.Account k ++ body_bytes i) (sym body-len)

    pub account-len : h + (n + r + u) ≡ length (account_bytes i)
    account-len = omega (arith, ap length account_parts, length-append (head kinds.Account (n + r + u)) (body_bytes i), body-len)

    -- the four writers, one after another
    pub account-put : (v w x y z : List ℕ) (p p₁ p₂ p₃ : ℕ) → p + (h + (n + r + u)) ≤ length v
        → (p₁ ≡ p + h) → w ≡ put v p (head kinds.Account (n + r + u))
        → (p₂ ≡ p₁ + n) → x ≡ put w p₁ (front i)
        → (p₃ ≡ p₂ + r) → y ≡ put x p₂ (flat_map row_bytes i.tally.rows)
        → z ≡ put y p₃ (row_bytes i.tally.issued)
        → z ≡ put v p (account_bytes i)
    account-put v w x y z p p₁ p₂ p₃ room q₁ one q₂ two q₃ three four =
        let a = head kinds.Account (n + r + u) in
        let b = front i in
        let c = flat_map row_bytes i.tally.rows in
        let d = row_bytes i.tally.issued in
        let ab = put_next v w x p p₁ a b (omega arith) (omega arith) one two in
        let abc = put_next v x y p p₂ (a ++ b) c (omega arith) (omega (arith, length-append a b)) ab three in
        let abcd = put_next v y z p p₃ (a ++ b ++ c) d (omega arith) (omega (arith, length-append (a ++ b) c, length-append a b)) abc four in
        abcd ∙ ap (put v p) (append_assoc (a ++ b) c d ∙ append_assoc a b (c ++ d) ∙ ap (λ (k : List ℕ). a ++ k) (sym (body_parts i)) ∙ sym account_parts)

-- what writing an account comes to; t is the account's tally
module _ (part : ℕ) (ok : part_ok part ≡ true) (a : Account) (t : Tally) (same : t ≡ a.tally) (v : List ℕ) (p : ℕ) (inside : p ≤ length v)
    (n r u h : ℕ) (fronts : n ≡ length (front (record { part = part; tally = t }))) (rows : r ≡ length (flat_map row_bytes t.rows)) (issues : u ≡ length (row_bytes t.issued))
    (heads : h ≡ length (head kinds.Account (n + r + u))) where
  abbrev item : AccountItem
  item = record { part = part; tally = t }

  abbrev Written : Result ℕ Refusal → List ℕ → Type 0
  Written answer left = Writes (not (part_ok part)) v p (account_bytes (item_of part a)) answer left

  right : not (part_ok part) ≡ false
  right = not_from_true (part_ok part) ok

  whole_length : h + (n + r + u) ≡ length (account_bytes item)
  whole_length = account-len item n r u h fronts rows issues heads

  of_account : (answer : Result ℕ Refusal) (left : List ℕ) → Writes (not (part_ok part)) v p (account_bytes item) answer left → Written answer left
  of_account answer left w =
      let P : Tally → Type 0 = λ x. Writes (not (part_ok part)) v p (account_bytes (record { part = part; tally = x })) answer left in
      subst P same w

  pub account_full : length v - p < h + (n + r + u) → Written (Err NoRoom) v
  account_full full = of_account (Err NoRoom) v (writes_full (not (part_ok part)) v p (account_bytes item) right inside (omega (arith, whole_length)))

  pub account_whole : h + (n + r + u) ≤ length v - p → (w x y z : List ℕ) (p₁ p₂ p₃ : ℕ)
      → (p₁ ≡ p + length (head kinds.Account (n + r + u))) → w ≡ put v p (head kinds.Account (n + r + u))
      → (p₂ ≡ p₁ + length (front item)) → x ≡ put w p₁ (front item)
      → (p₃ ≡ p₂ + length (flat_map row_bytes t.rows)) → y ≡ put x p₂ (flat_map row_bytes t.rows)
      → z ≡ put y p₃ (row_bytes t.issued)
      → Written (Ok (h + (n + r + u))) z
  account_whole room w x y z p₁ p₂ p₃ q₁ one q₂ two q₃ three four =
      let left = account-put item n r u h fronts rows issues heads v w x y z p p₁ p₂ p₃ (omega arith) (omega arith) one (omega arith) two (omega arith) three four in
      of_account (Ok (h + (n + r + u))) z (writes_whole (not (part_ok part)) v p (account_bytes item) right inside (h + (n + r + u)) z (omega (arith, whole_length)) whole_length left)

-- what writing a remark comes to
module _ (text v : List ℕ) (p : ℕ) (short : length text ≤ 200) (inside : p ≤ length v) (h : ℕ) (heads : h ≡ length (head kinds.Remark (length text))) where
  abbrev RemarkWritten : Result ℕ Refusal → List ℕ → Type 0
  RemarkWritten answer left = Writes (too_long text) v p (item_bytes kinds.Remark text) answer left

  short_enough : too_long text ≡ false
  short_enough = le-ltb 200 (length text) short

  remark-length : h + length text ≡ length (item_bytes kinds.Remark text)
  remark-length = omega (arith, ap length (item_parts kinds.Remark text), length-append (head kinds.Remark (length text)) text)

  pub remark_whole : h + length text ≤ length v - p → (w z : List ℕ) (q : ℕ) → (q ≡ p + length (head kinds.Remark (length text))) → w ≡ put v p (head kinds.Remark (length text)) → z ≡ put w q text → RemarkWritten (Ok (h + length text)) z
  remark_whole room w z q next one two =
      let left = put_next v w z p q (head kinds.Remark (length text)) text inside next one two ∙ ap (put v p) (sym (item_parts kinds.Remark text)) in
      writes_whole (too_long text) v p (item_bytes kinds.Remark text) short_enough inside (h + length text) z (omega (arith, remark-length)) remark-length left
