-- In the middle of a piece: the calls so far, and that what is owed falls with the next. Assumes nothing.
use Rattle.std.proofs.Common.{◌≡◌, ℕ, suc, ◌<◌, Bool, true, false, List, [], ◌++◌, length, drop, take, Result, Ok, Option, Some, None, refl, subst, arith}
use Rattle.refusal.specs.declared.Refusal.{Refusal}
use Rattle.session_memory.specs.declared.State.{State}
use Rattle.session_memory.specs.Suspended.{Suspended, owed_for}
use Rattle.session_feed.specs.declared.Fed.{Fed}
use Rattle.session_feed.specs.Feeding.{fed_to, Feeds, FeedSays, takes, refuses}
use Rattle.session_feed.specs.Laws as laws
use Rattle.session_feed.specs.Laws.{Again, Calls}
use Rattle.session_feed.proofs.Cutting.{owed_less}
use Rattle.session_serve.specs.Serving.{IsPrefixLen, Served, PieceServed, NextServed}

-- all calls so far left more to do
pub record Amid (d : Suspended) (out piece : List ℕ) (d' : Suspended) (out' : List ℕ) (place : ℕ) : Type 0 where
  pub count : ℕ
  pub text : List ℕ
  pub calls : Calls Again d out piece 0 count text d' out' place

pub amid_first : (d : Suspended) (out piece : List ℕ) → Amid d out piece d out 0
amid_first d out piece = record { count = 0; text = []; calls = laws.none }

module _ {d : Suspended} {piece : List ℕ} {from : ℕ} {out : List ℕ} {d' : State → Suspended} {out' : List ℕ} where
  answered : {x : Result Fed Refusal} → FeedSays d piece from out d' out' x → (f : Fed) → x ≡ Ok f → Feeds d piece from out (d' f.state) f.place f.printed f.more out'
  answered (takes {s = s} {place = place} {printed = printed} {more = more} z fits feeds) f e =
      let q : fed_to s place printed more ≡ f = cc in subst (λ (y : Fed). Feeds d piece from out (d' y.state) y.place y.printed y.more out') q feeds
  answered (refuses z same left) f e = absurd (cc)

  -- what a call has left, where the session goes on
  served_feeds : {f : Fed} → Served d piece from out d' out' (Some f) → {more : Bool} → f.more ≡ more → Feeds d piece from out (d' f.state) f.place f.printed more out'
  served_feeds {f = f} v m = subst (λ (b : Bool). Feeds d piece from out (d' f.state) f.place f.printed b out') m (answered v.says f v.goes)

  pub owed_falls : {f : Fed} → Served d piece from out d' out' (Some f) → f.more ≡ true → length (owed_for (d' f.state) (drop f.place piece)) < length (owed_for d (drop from piece))
  owed_falls v m = omega (arith, owed_less (served_feeds v m))

module _ {d e : Suspended} {out piece o : List ℕ} {at : ℕ} {d' : State → Suspended} {out' : List ℕ} {f : Fed} (a : Amid d out piece e o at) (v : Served e piece at o d' out' (Some f)) where
  pub amid_next : f.more ≡ true → Amid d out piece (d' f.state) out' f.place
  amid_next m = let x = served_feeds v m in record { count = suc a.count; text = a.text ++ x.text; calls = laws.more a.calls refl x }

  pub amid_last : f.more ≡ false → PieceServed d out piece d' out' (Some f.state)
  amid_last m = let x = served_feeds v m in record { whole = (a.count, a.text ++ x.text, laws.last a.calls refl x) }

-- the next piece: n bytes have come
pub some_served : (d : Suspended) (out : List ℕ) (d' : State → Suspended) (out' buffer : List ℕ) (r : Option State)
    (n : ℕ) → (n ≡ 0 → ⊥) → IsPrefixLen n buffer → PieceServed d out (take n buffer) d' out' r → NextServed d out d' out' buffer r
some_served d out d' out' buffer (Some s) n h c p = record { count = n; some = omega arith; within = c.0; served = p }
some_served d out d' out' buffer None n h c p = record { count = n; some = tt; within = c.0; served = p }
