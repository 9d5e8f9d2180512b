-- Writing some bytes after others.
use Rattle.std.proofs.Common.{◌≡◌, ℕ, zero, suc, ◌+◌, ◌-◌, ◌<◌, ◌≤◌, false, ltb, List, [], ◌∷◌, ◌++◌, length, get_or, take, drop, Some, sym, ap, ◌∙◌, arith}
use borrow.Rule.Slice.PartMut.{put_mid}
use Rattle.std.specs.List.{flat_map}
use Rattle.std.proofs.lemmas.List.{append_assoc, append-nil, length-append, length-take-le, length-drop, take_at, drop_at, drop-drop, drop_all, take_more, flat_map_more}
use Rattle.std.proofs.lemmas.Slice.{between_to_end}
use Rattle.std.proofs.lemmas.Bool.{le-ltb}
use Rattle.numbers.specs.Numbers.{number_bytes, room_for, written}
use Rattle.items.specs.Writing.{put}

-- bytes written right behind others
pub put-put : (xs : List ℕ) (p : ℕ) (a b : List ℕ) → p ≤ length xs → put (put xs p a) (p + length a) b ≡ put xs p (a ++ b)
put-put xs p a b h =
    let rest = drop (p + length a) xs in
    let front = take p xs ++ a in
    let len : length front ≡ p + length a = length-append (take p xs) a ∙ ap (λ (x : ℕ). x + length a) (length-take-le p xs h) in
    let whole : put xs p a ≡ front ++ rest = sym (append_assoc (take p xs) a rest) in
    let l : take (p + length a) (put xs p a) ≡ front = ap (take (p + length a)) whole ∙ take_at front rest _ len in
    let r : drop (p + length a + length b) (put xs p a) ≡ drop (p + length (a ++ b)) xs =
    sym (drop-drop (length b) (p + length a) (put xs p a))
    ∙ ap (drop (length b)) (ap (drop (p + length a)) whole ∙ drop_at front rest _ len)
    ∙ drop-drop (length b) (p + length a) xs
    ∙ ap (λ (x : ℕ). drop x xs) (omega (arith, length-append a b)) in
    rw (l, r) (append_assoc (take p xs) a _ ∙ ap (λ (x : List ℕ). take p xs ++ x) (sym (append_assoc a b _)))

-- the same from what two writers tell
pub put_next : (xs ys zs : List ℕ) (p q : ℕ) (a b : List ℕ) → p ≤ length xs → q ≡ p + length a → ys ≡ put xs p a → zs ≡ put ys q b → zs ≡ put xs p (a ++ b)
put_next xs ys zs p q a b h next one two =
    two ∙ ap (λ (x : List ℕ). put x q b) one ∙ ap (λ (n : ℕ). put (put xs p a) n b) next ∙ put-put xs p a b h

pub length-put : (xs : List ℕ) (p : ℕ) (a : List ℕ) → p + length a ≤ length xs → length (put xs p a) ≡ length xs
length-put xs p a h =
    let t = length-append (take p xs) (a ++ drop (p + length a) xs) in
    let u = length-append a (drop (p + length a) xs) in
    omega (arith, length-take-le p xs (omega arith), length-drop (p + length a) xs)

-- A LOOP THAT WRITES ONE VALUE AFTER ANOTHER

module _ {X : Type 0} (bytes : X → List ℕ) where
  pub joined_step : (xs : List X) (i : ℕ) (d : X) → i < length xs → flat_map bytes (take (i + 1) xs) ≡ flat_map bytes (take i xs) ++ bytes (get_or xs i d)
  joined_step xs i d h = ap (flat_map bytes) (take_more xs i d h) ∙ sym (flat_map_more bytes [] (take i xs) (get_or xs i d))

  pub length_step : (xs : List X) (i : ℕ) (d : X) → i < length xs → length (flat_map bytes (take (i + 1) xs)) ≡ length (flat_map bytes (take i xs)) + length (bytes (get_or xs i d))
  length_step xs i d h = ap length (joined_step xs i d h) ∙ length-append (flat_map bytes (take i xs)) (bytes (get_or xs i d))

  pub length_part : (i : ℕ) (xs : List X) → length (flat_map bytes (take i xs)) ≤ length (flat_map bytes xs)
  length_part zero xs = omega arith
  length_part (suc i) [] = omega arith
  length_part (suc i) (x ∷ xs) =
      let a = length-append (bytes x) (flat_map bytes (take i xs)) in
      let b = length-append (bytes x) (flat_map bytes xs) in
      omega (arith, length_part i xs)

  -- i of the values are written from p on, the next goes to q, and there is room for all
  pub record Wrote (xs ys : List ℕ) (p : ℕ) (vs : List X) (i q : ℕ) : Type 0 where
    pub next : q ≡ p + length (flat_map bytes (take i vs))
    pub left : ys ≡ put xs p (flat_map bytes (take i vs))

  module _ (xs ys : List ℕ) (p : ℕ) (vs : List X) (i q : ℕ) (fits : p + length (flat_map bytes vs) ≤ length xs) (so_far : Wrote xs ys p vs i q) where
    pub wrote_room : (d : X) → i < length vs → q + length (bytes (get_or vs i d)) ≤ length ys
    wrote_room d h =
        let front = flat_map bytes (take i vs) in
        let one = length_part (i + 1) vs in
        let two = length_part i vs in
        let same : length ys ≡ length xs = ap length so_far.left ∙ length-put xs p front (omega arith) in
        omega (arith, length_step vs i d h, so_far.next)

    pub wrote_more : (zs : List ℕ) (r : ℕ) (d : X) → i < length vs → r ≡ q + length (bytes (get_or vs i d)) → zs ≡ put ys q (bytes (get_or vs i d)) → Wrote xs zs p vs (i + 1) r
    wrote_more zs r d h next left =
        let front = flat_map bytes (take i vs) in
        let value = bytes (get_or vs i d) in
        record {
          next = omega (arith, length_step vs i d h, so_far.next);
          left =
              put_next xs ys zs p q front value (omega arith) so_far.next so_far.left left
              ∙ ap (put xs p) (sym (joined_step vs i d h));
        }

-- bytes copied to a part of the buffer
pub put_copied : (xs ys bs : List ℕ) (p : ℕ) → ys ≡ bs → put_mid p (p + length bs - p) xs ys ≡ put xs p bs
put_copied xs ys bs p e =
    let k : p + (p + length bs - p) ≡ p + length bs = omega arith in
    ap (λ (x : List ℕ). take p xs ++ (x ++ drop (p + length bs - p) (drop p xs))) e
    ∙ ap (λ (x : List ℕ). take p xs ++ (bs ++ x)) (drop-drop (p + length bs - p) p xs ∙ ap (λ (n : ℕ). drop n xs) k)

-- A NUMBER IN THE PART OF THE BUFFER THAT IS LENT

pub put-lent : (xs ys bs : List ℕ) (p : ℕ) → p ≤ length xs → ys ≡ bs ++ drop (length bs) (drop p xs) → put_mid p (length xs - p) xs ys ≡ put xs p bs
put-lent xs ys bs p h e =
    let k = length xs - p in
    let none : drop k (drop p xs) ≡ [] = drop-drop k p xs ∙ drop_all (p + k) xs (omega arith) in
    ap (λ (x : List ℕ). take p xs ++ x)
    (ap (λ (x : List ℕ). ys ++ x) none ∙ append-nil ys ∙ e ∙ ap (λ (x : List ℕ). bs ++ x) (drop-drop (length bs) p xs))

lent_is : (xs : List ℕ) (p : ℕ) → take (length xs - p) (drop p xs) ≡ drop p xs
lent_is xs p = between_to_end xs p (length xs) (omega arith)

module _ (xs : List ℕ) (p n : ℕ) (fits : p + length (number_bytes n) ≤ length xs) where
  roomy : ltb (length (drop p xs)) (length (number_bytes n)) ≡ false
  roomy = le-ltb _ _ (omega (arith, length-drop p xs))

  pub lent-room : room_for (take (length xs - p) (drop p xs)) n ≡ Some (length (number_bytes n))
  lent-room = ap (λ (x : List ℕ). room_for x n) (lent_is xs p) ∙ rw roomy

  pub lent-put : (ys : List ℕ) → ys ≡ written (take (length xs - p) (drop p xs)) n → put_mid p (length xs - p) xs ys ≡ put xs p (number_bytes n)
  lent-put ys e =
      put-lent xs ys (number_bytes n) p (omega arith) (e ∙ ap (λ (x : List ℕ). written x n) (lent_is xs p) ∙ rw roomy)
