mod ChainLaws
mod HeadLaws
mod LineLaws
