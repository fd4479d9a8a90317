mod Opened
mod BothEnds
