-- Public vocabulary: the order of the steps of a round of a link, whoever makes them.

-- A round of a link: it begins, what was sent comes or waits, then the replies to it, and last the meter takes a turn.
pub record IsMadeInOrder {Maker Link Sent : Type 0} (begun : Maker → Link → Maker → Link → Sent → Type 0) (passed : Maker → Link → Sent → Maker → Link → Sent → Type 0)
    (turned : Maker → Link → Maker → Type 0) (old : Maker) (link : Link) (new : Maker) (next : Link) : Type 0 where
  pub one : Maker
  pub two : Maker
  pub three : Maker
  pub opened : Link
  pub answered : Link
  pub sent : Sent
  pub replies : Sent
  pub others : Sent
  pub begins : begun old link one opened sent
  pub first_pass : passed one opened sent two answered replies
  pub second_pass : passed two answered replies three next others
  pub turns : turned three next new
