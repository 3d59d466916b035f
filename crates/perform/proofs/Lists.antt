-- The encoding of a list is decoded as that list (specs/Lists), a record at a time.
use Prim.Native.Nat.{ℕ, zero, suc, ◌+◌, ◌^◌, ◌≤◌, ◌<◌}
use mathlib.Core.Bool.{true}
use mathlib.Core.List.{List, [], ◌∷◌, ◌++◌, append_assoc}
use mathlib.Core.Path.{◌≡◌, refl, sym, ap, ◌∙◌, subst}
use native.Mathlib.Omega.{arith}
use native.Mathlib.Nat.{add-zero}
use lib.ListN.{length, get_or, take, drop, length-append}
use lib.Seq.{get_or-append-add, drop-append-add, drop-drop, take_at, drop_at}
use Rattle.buffer.specs.Buffer.{Bytes}
use Rattle.buffer.specs.Numbers.{le, number}
use Rattle.buffer.proofs.Numbers.{length-le, bytes_le, number-le}
use Rattle.frames.specs.Frames.{number_at}
use Rattle.frames.proofs.Laws.{number_at_lem, number_behind}
use Rattle.book.specs.Call.{Call, lent}
use Rattle.book.specs.Call.Call.{Begin, Feed, Early, Handshake, Application, Complete, Update, Close, Keys, Finished, Check, Binder, Export}
use Rattle.perform.specs.declared.encoded.Header.{Header}
use Rattle.perform.specs.Encoding.{header_at, call_of, call_at, fits, decoded_from}
use Rattle.perform.specs.Lists.{record_for, record_of, encoded, outputs, Slice, Possible, AllPossible, EveryListIsEncoded}
use Rattle.perform.proofs.Performing.{header_is, all_there, no_strings, more_by, none-by}

-- bytes
bytes-none : Bytes []
bytes-none i = omega arith

bytes-cons : (x : ℕ) (xs : List ℕ) → x < 256 → Bytes xs → Bytes (x ∷ xs)
bytes-cons x xs h b zero = h
bytes-cons x xs h b (suc i) = b i

bytes-append : (xs ys : List ℕ) → Bytes xs → Bytes ys → Bytes (xs ++ ys)
bytes-append [] ys a b = b
bytes-append (x ∷ xs) ys a b = bytes-cons x (xs ++ ys) (a 0) (bytes-append xs ys (λ i. a (suc i)) b)

-- A call as a record: its kind, numbers and byte strings.
record Encodes (c : Call) : Type 0 where
  kind : ℕ
  small : ℕ
  wide : ℕ
  asked : ℕ
  first : List ℕ
  second : List ℕ
  is_record : record_of c ≡ record_for kind small wide asked first second (lent c)
  is_call : call_of kind small wide asked first second (lent c) ≡ c
  kind_fits : kind < 256
  small_fits : small < 256
  wide_fits : wide < 65536
  asked_fits : asked < 2 ^ 32
  first_fits : Slice first
  second_fits : Slice second
  output-fits : Slice (lent c)

made : {c : Call} (kind small wide asked : ℕ) (first second : List ℕ)
    → record_of c ≡ record_for kind small wide asked first second (lent c)
    → call_of kind small wide asked first second (lent c) ≡ c
    → (kind < 256) × (small < 256) × (wide < 65536) × (asked < 2 ^ 32)
    → Slice first × Slice second × Slice (lent c) → Encodes c
made kind small wide asked first second r e n s =
    record {
      kind = kind;
      small = small;
      wide = wide;
      asked = asked;
      first = first;
      second = second;
      is_record = r;
      is_call = e;
      kind_fits = n.0;
      small_fits = n.1;
      wide_fits = n.2;
      asked_fits = n.3;
      first_fits = s.0;
      second_fits = s.1;
      output-fits = s.2;
    }

no_bytes : Slice []
no_bytes = (bytes-none, omega arith)

encodes : (c : Call) → Possible c → Encodes c
unfolding record_of call_of lent
encodes (Begin suite kind psk) p =
    made 1 kind suite 0 psk [] refl refl (omega arith, p.1, p.0, omega arith) (p.2, no_bytes, no_bytes)
encodes (Feed message) p = made 2 0 0 0 message [] refl refl (omega arith) (p, no_bytes, no_bytes)
encodes Early p = made 3 0 0 0 [] [] refl refl (omega arith) (no_bytes, no_bytes, no_bytes)
encodes (Handshake group secret) p =
    made 4 0 group 0 secret [] refl refl (omega arith, omega arith, p.0, omega arith) (p.1, no_bytes, no_bytes)
encodes Application p = made 5 0 0 0 [] [] refl refl (omega arith) (no_bytes, no_bytes, no_bytes)
encodes Complete p = made 6 0 0 0 [] [] refl refl (omega arith) (no_bytes, no_bytes, no_bytes)
encodes (Update side) p = made 7 side 0 0 [] [] refl refl (omega arith, p, omega arith, omega arith) (no_bytes, no_bytes, no_bytes)
encodes Close p = made 8 0 0 0 [] [] refl refl (omega arith) (no_bytes, no_bytes, no_bytes)
encodes (Keys name output) p =
    made 9 name 0 0 [] [] refl refl (omega arith, p.0, omega arith, omega arith) (no_bytes, no_bytes, p.1)
encodes (Finished side output) p =
    made 10 side 0 0 [] [] refl refl (omega arith, p.0, omega arith, omega arith) (no_bytes, no_bytes, p.1)
encodes (Check side received) p =
    made 11 side 0 0 received [] refl refl (omega arith, p.0, omega arith, omega arith) (p.1, no_bytes, no_bytes)
encodes (Binder hello output) p = made 12 0 0 0 hello [] refl refl (omega arith) (p.0, no_bytes, p.1)
encodes (Export name label context asked output) p =
    made 13 name 0 asked label context refl refl (omega arith, p.0, omega arith, p.3) (p.1, p.2, p.4)

-- One record, behind others.
module _ (k s w a : ℕ) (f g o : List ℕ) where
  length_record : length (record_for k s w a f g o) ≡ 20 + length f + length g
  unfolding record_for
  length_record = simp (length-append, length-le) (omega arith)

  bytes_record : k < 256 → s < 256 → Bytes f → Bytes g → Bytes (record_for k s w a f g o)
  unfolding record_for
  bytes_record hk hs bf bg =
      let x0 : List ℕ = f ++ g in
      let x1 : List ℕ = le 4 (length o) ++ x0 in
      let x2 : List ℕ = le 4 a ++ x1 in
      let x3 : List ℕ = le 4 (length g) ++ x2 in
      let x4 : List ℕ = le 4 (length f) ++ x3 in
      let b1 : Bytes x1 = bytes-append (le 4 (length o)) x0 (bytes_le 4 (length o)) (bytes-append f g bf bg) in
      let b3 : Bytes x3 = bytes-append (le 4 (length g)) x2 (bytes_le 4 (length g)) (bytes-append (le 4 a) x1 (bytes_le 4 a) b1) in
      let b4 : Bytes x4 = bytes-append (le 4 (length f)) x3 (bytes_le 4 (length f)) b3 in
      bytes-cons k (s ∷ (le 2 w ++ x4)) hk (bytes-cons s (le 2 w ++ x4) hs (bytes-append (le 2 w) x4 (bytes_le 2 w) b4))

  module _ (pre rest lpre lrest : List ℕ) where
    header : w < 65536 → a < 2 ^ 32 → length f < 2 ^ 32 → length g < 2 ^ 32 → length o < 2 ^ 32
        → ◌≡◌ {A = Header} (record { kind = k; small = s; wide = w; first = length f; second = length g; asked = a; room = length o })
        (header_at (pre ++ (record_for k s w a f g o ++ rest)) (length pre))
    unfolding record_for le
    header hw ha hf hg ho =
        let X : List ℕ = record_for k s w a f g o ++ rest in
        let lx : length X ≡ 20 + length f + length g + length rest = simp length-append (omega arith) in
        let e0 : get_or (pre ++ X) (length pre) 0 ≡ k =
        ap (λ (n : ℕ). get_or (pre ++ X) n 0) (sym (add-zero (length pre))) ∙ get_or-append-add pre X 0 0 in
        let e1 : get_or (pre ++ X) (length pre + 1) 0 ≡ s = get_or-append-add pre X 1 0 in
        let e2 : number_at 2 (pre ++ X) (length pre + 2) ≡ w = number_behind 2 pre X 2 (omega arith) ∙ number_at_lem 2 X 2 (omega arith) ∙ number-le 2 w hw in
        let four : (at v : ℕ) → at + 4 ≤ length X → take 4 (drop at X) ≡ le 4 v → v < 2 ^ 32 → number_at 4 (pre ++ X) (length pre + at) ≡ v =
        λ at v fits e small. number_behind 4 pre X at fits ∙ number_at_lem 4 X at fits ∙ ap number e ∙ number-le 4 v small in
        let e3 : number_at 4 (pre ++ X) (length pre + 4) ≡ length f = four 4 (length f) (omega arith) refl hf in
        let e4 : number_at 4 (pre ++ X) (length pre + 8) ≡ length g = four 8 (length g) (omega arith) refl hg in
        let e5 : number_at 4 (pre ++ X) (length pre + 12) ≡ a = four 12 a (omega arith) refl ha in
        let e6 : number_at 4 (pre ++ X) (length pre + 16) ≡ length o = four 16 (length o) (omega arith) refl ho in
        header_is (pre ++ X) (length pre) (sym e0) (sym e1) (sym e2) (sym e3) (sym e4) (sym e5) (sym e6)

    strings : drop (length pre + 20) (pre ++ (record_for k s w a f g o ++ rest)) ≡ f ++ (g ++ rest)
    unfolding record_for le
    strings = drop-append-add pre (record_for k s w a f g o ++ rest) 20 ∙ append_assoc f g rest

    call_back : {h : Header}
        → h ≡ record { kind = k; small = s; wide = w; first = length f; second = length g; asked = a; room = length o }
        → call_at h (pre ++ (record_for k s w a f g o ++ rest)) (lpre ++ (o ++ lrest)) (length pre) (length lpre) ≡ call_of k s w a f g o
    unfolding call_at
    call_back e =
        let list : List ℕ = pre ++ (record_for k s w a f g o ++ rest) in
        let ef : take (length f) (drop (length pre + 20) list) ≡ f =
        ap (take (length f)) strings ∙ take_at f (g ++ rest) (length f) refl in
        let eg : take (length g) (drop (length pre + 20 + length f) list) ≡ g =
        ap (take (length g)) (sym (drop-drop (length f) (length pre + 20) list) ∙ ap (drop (length f)) strings ∙ drop_at f (g ++ rest) (length f) refl)
        ∙ take_at g rest (length g) refl in
        let eo : take (length o) (drop (length lpre) (lpre ++ (o ++ lrest))) ≡ o =
        ap (take (length o)) (drop_at lpre (o ++ lrest) (length lpre) refl) ∙ take_at o lrest (length o) refl in
        rw e (λ i. call_of k s w a (ef i) (eg i) (eo i))

-- The record of a call, behind others: the call, and what follows it.
one : (c : Call) → Encodes c → (n : ℕ) (pre rest lpre lrest : List ℕ) (cs : List Call)
    → decoded_from n ((pre ++ record_of c) ++ rest) ((lpre ++ lent c) ++ lrest) (length (pre ++ record_of c)) (length (lpre ++ lent c)) ≡ cs
    → decoded_from (suc n) (pre ++ (record_of c ++ rest)) (lpre ++ (lent c ++ lrest)) (length pre) (length lpre) ≡ c ∷ cs
one c e n pre rest lpre lrest cs again =
    ap (λ (r : List ℕ). decoded_from (suc n) (pre ++ (r ++ rest)) old (length pre) (length lpre)) e.is_record
    ∙ more_by n list old (length pre) (length lpre) head fit
    ∙ (λ i. called i ∷ decoded_from n (lists i) (olds i) (places i) (used i))
    ∙ ap (λ (l : List Call). c ∷ l) again
  where
    o : List ℕ
    o = lent c

    old : List ℕ
    old = lpre ++ (o ++ lrest)

    r : List ℕ
    r = record_for e.kind e.small e.wide e.asked e.first e.second o

    list : List ℕ
    list = pre ++ (r ++ rest)

    h : Header
    h = record { kind = e.kind; small = e.small; wide = e.wide; first = length e.first; second = length e.second; asked = e.asked; room = length o }

    size : length r ≡ 20 + length e.first + length e.second
    size = length_record e.kind e.small e.wide e.asked e.first e.second o

    head : h ≡ header_at list (length pre)
    head =
        header e.kind e.small e.wide e.asked e.first e.second o pre rest lpre lrest e.wide_fits e.asked_fits
        e.first_fits.1 e.second_fits.1 e.output-fits.1

    fit : fits h (length list) (length old) (length pre) (length lpre) ≡ true
    fit =
        sym
        (all_there h (length list) (length old) (length pre) (length lpre)
        (omega (arith, size, length-append pre (r ++ rest), length-append r rest))
        (omega (arith, length-append lpre (o ++ lrest), length-append o lrest)))

    called : call_at h list old (length pre) (length lpre) ≡ c
    called =
        call_back e.kind e.small e.wide e.asked e.first e.second o pre rest lpre lrest refl ∙ e.is_call

    lists : list ≡ (pre ++ record_of c) ++ rest
    lists = sym (append_assoc pre r rest) ∙ ap (λ (x : List ℕ). (pre ++ x) ++ rest) (sym e.is_record)

    olds : old ≡ (lpre ++ o) ++ lrest
    olds = sym (append_assoc lpre o lrest)

    places : length pre + 20 + length e.first + length e.second ≡ length (pre ++ record_of c)
    places = omega (arith, size, length-append pre (record_of c), ap length e.is_record)

    used : length lpre + length o ≡ length (lpre ++ o)
    used = sym (length-append lpre o)

record_long : (c : Call) → Encodes c → 20 ≤ length (record_of c)
record_long c e =
    omega (arith, ap length e.is_record, length_record e.kind e.small e.wide e.asked e.first e.second (lent c))

decode : (cs : List Call) → AllPossible cs → (n : ℕ) (pre lpre : List ℕ) → length (encoded cs) ≤ n
    → decoded_from n (pre ++ encoded cs) (lpre ++ outputs cs) (length pre) (length lpre) ≡ cs
unfolding encoded outputs
decode [] p n pre lpre h =
    none-by n (pre ++ []) (lpre ++ []) (length pre) (length lpre)
    (sym
    (no_strings (header_at (pre ++ []) (length pre)) (length (pre ++ [])) (length (lpre ++ [])) (length pre) (length lpre)
    (omega (arith, length-append pre []))))
decode (c ∷ cs) p zero pre lpre h =
    absurd (omega (arith, h, length-append (record_of c) (encoded cs), record_long c (encodes c p.0)))
decode (c ∷ cs) p (suc n) pre lpre h =
    let e = encodes c p.0 in
    one c e n pre (encoded cs) lpre (outputs cs) cs
    (decode cs p.1 n (pre ++ record_of c) (lpre ++ lent c)
    (omega (arith, h, length-append (record_of c) (encoded cs), record_long c e)))

all_bytes : (cs : List Call) → AllPossible cs → Bytes (encoded cs) × Bytes (outputs cs)
unfolding encoded outputs
all_bytes [] p = (bytes-none, bytes-none)
all_bytes (c ∷ cs) p =
    let e = encodes c p.0 in
    let b = all_bytes cs p.1 in
    let r = bytes_record e.kind e.small e.wide e.asked e.first e.second (lent c) e.kind_fits e.small_fits e.first_fits.0 e.second_fits.0 in (
      bytes-append (record_of c) (encoded cs) (subst Bytes (sym e.is_record) r) b.0,
      bytes-append (lent c) (outputs cs) e.output-fits.0 b.1,
    )

pub every_list_is_encoded : EveryListIsEncoded
every_list_is_encoded cs p = ((all_bytes cs p).0, (all_bytes cs p).1, decode cs p (length (encoded cs)) [] [] (omega arith))
